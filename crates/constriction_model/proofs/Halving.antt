-- The steps of a search by halving.
use Rattle.std.proofs.Common.{◌≡◌, ℕ, ◌+◌, ◌-◌, ◌*◌, ◌/◌, ◌^◌, ◌<◌, ◌≤◌, suc, zero, List, length, get_or, arith, inl, inr, ◌∙◌}
use Rattle.std.proofs.lemmas.Bool.{cases_lt}
use Rattle.std.specs.List.Sorted.{IsStrictlyIncreasing}
use Rattle.constriction_model.proofs.Digits.{digits-zero, digits_between, digits_ones, digits_step, digits_word}
use Rattle.constriction_model.specs.Probe.{digits, IsSearchable, IsLastAtMost}
use Rattle.constriction_model.specs.declared.probe.Probe.{Ghosts}
use Rattle.constriction_model.specs.private.Searching.{LiesAmong, MaySearch, Narrows, IsHalved}

-- in a list that increases, each later element is greater
pub later : (xs : List ℕ) (i j : ℕ) → IsStrictlyIncreasing xs → i < j → j < length xs → get_or xs i 0 < get_or xs j 0
later xs i zero s h b = absurd (omega arith)
later xs i (suc j) s h b = elim (cases_lt i j) [
  | inl more ↦ (let e : suc j ≡ j + 1 = omega arith in rw e (omega (arith, later xs i j s more (omega arith), s j (omega arith))))
  | inr no_more ↦ (let e : suc j ≡ i + 1 = omega arith in rw e (s i (omega arith)))
]

module _ (xs : List ℕ) (q : ℕ) (s : IsSearchable xs q) where
  pub narrowed_all : LiesAmong xs q 0 (length xs)
  narrowed_all = record { some = s.some; within = omega arith; at_most = s.begins; above = λ h. absurd (omega arith) }

  pub narrowed_one : (first size : ℕ) → LiesAmong xs q first size → size ≤ 1 → IsLastAtMost xs q first
  narrowed_one first size n h =
      let one : size ≡ 1 = omega (arith, n.some) in
      record {
        in_bounds = omega (arith, n.within);
        at_most = n.at_most;
        last = λ j a b. elim (cases_lt (first + 1) j) [
          | inl more ↦ omega (arith, later xs (first + 1) j s.increases more b, rw one at n.above)
          | inr no_more ↦ (let e : first + size ≡ j = omega arith in rw (← e) (n.above (rw e b)))
        ];
      }

  -- if the row `size - left` rows after the first one begins above the quantile, its row is among the first `left` rows
  pub narrowed_first : (first size left : ℕ) → LiesAmong xs q first size → left < size → size ≤ 2 * left
      → q < get_or xs (first + (size - left)) 0 → LiesAmong xs q first left
  narrowed_first first size left n fewer half greater = record {
    some = omega arith;
    within = omega (arith, n.within);
    at_most = n.at_most;
    above = λ b. elim (cases_lt (first + (size - left)) (first + left)) [
      | inl more ↦ omega (arith, greater, later xs (first + (size - left)) (first + left) s.increases more b)
      | inr no_more ↦ (let e : first + (size - left) ≡ first + left = omega arith in rw (← e) greater)
    ];
  }

-- more than 2 ^ k rows, and at most twice that
halved_power : (k n : ℕ) → 2 ^ k < n → n ≤ 2 ^ suc k → IsHalved n (2 ^ k)
halved_power k n more most = record {
  fewer = more;
  half = omega arith;
  digit = omega (arith, digits_between k n more most, digits_ones k);
}

halved_one : (n : ℕ) → 1 < n → n ≤ 2 → IsHalved n 1
halved_one = halved_power 0

-- three or four rows are halved to two
pub halved_two : (n : ℕ) → 2 < n → n ≤ 4 → IsHalved n 2
halved_two = halved_power 1

-- five to eight are halved to four
pub halved_four : (n : ℕ) → 4 < n → n ≤ 8 → IsHalved n 4
halved_four = halved_power 2

-- nine to sixteen are halved to eight
pub halved_eight : (n : ℕ) → 8 < n → n ≤ 16 → IsHalved n 8
halved_eight = halved_power 3

-- seventeen to 32 are halved to sixteen
pub halved_sixteen : (n : ℕ) → 16 < n → n ≤ 32 → IsHalved n 16
halved_sixteen = halved_power 4

-- two rows are halved to one
pub two_halved : IsHalved 2 1
two_halved = halved_one 2 (omega arith) (omega arith)

-- four are halved to two
pub four_halved : IsHalved 4 2
four_halved = halved_two 4 (omega arith) (omega arith)

-- eight are halved to four
pub eight_halved : IsHalved 8 4
eight_halved = halved_four 8 (omega arith) (omega arith)

-- sixteen are halved to eight
pub sixteen_halved : IsHalved 16 8
sixteen_halved = halved_eight 16 (omega arith) (omega arith)

-- at least two rows
pub halved_step : (n left : ℕ) → left ≡ n - n / 2 → 1 < n → IsHalved n left
halved_step n left e more = rw e (record { fewer = omega arith; half = omega arith; digit = digits_step n more })

-- the search of a probe
module _ {P Word : Type 0} (g : Ghosts P Word) (rows : P) (q : Word) where
  -- a question whose answers both leave `left` of `size` rows
  module _ (first size left at : ℕ) (new : P) (may : MaySearch g rows q first size) (h : IsHalved size left)
      (at_is : at ≡ first + (size - left))
      (same : g.cumulatives new ≡ g.cumulatives rows) (counted : g.questions new ≡ g.questions rows + 1) where
    asked : (next : ℕ) → LiesAmong (g.cumulatives rows) (g.number q) next left → Narrows g rows q size new next left
    asked next n = record { narrowed = rw same n; same = same; counted = omega (arith, counted, h.digit) }

    -- the row asked about begins at or below the quantile: the search goes on from it
    pub asked_yes : get_or (g.cumulatives rows) at 0 ≤ g.number q → Narrows g rows q size new at left
    asked_yes before =
        let end : at + left ≡ first + size = omega (arith, at_is, h.fewer) in
        asked at (record {
          some = omega (arith, h.fewer, h.half);
          within = omega (arith, end, may.narrowed.within);
          at_most = before;
          above = rw end may.narrowed.above;
        })

    -- it begins above the quantile: the search goes on before it
    pub asked_no : g.number q < get_or (g.cumulatives rows) at 0 → Narrows g rows q size new first left
    asked_no after =
        asked first (narrowed_first _ _ may.searchable first size left may.narrowed h.fewer h.half (rw at_is at after))

  -- a search that came to some rows may go on among them
  pub goes_on : (first size next left : ℕ) (new : P) → MaySearch g rows q first size → Narrows g rows q size new next left
      → MaySearch g new q next left
  goes_on first size next left new may n = record {
    searchable = rw n.same may.searchable;
    word = rw n.same may.word;
    narrowed = n.narrowed;
    room = omega (arith, may.room, n.counted);
  }

  -- two searches, the second one among the rows that the first one came to
  pub in_turn : (size next left last rest : ℕ) (mid new : P) → Narrows g rows q size mid next left → Narrows g mid q left new last rest
      → Narrows g rows q size new last rest
  in_turn size next left last rest mid new n m = record {
    narrowed = m.narrowed;
    same = m.same ∙ n.same;
    counted = omega (arith, n.counted, m.counted);
  }

  -- a search of all rows may begin
  pub may_begin : IsSearchable (g.cumulatives rows) (g.number q) → length (g.cumulatives rows) < 2 ^ 64
      → g.questions rows ≤ 2 ^ 64 - 1 - 64 → MaySearch g rows q 0 (length (g.cumulatives rows))
  may_begin searchable word room = record {
    searchable = searchable;
    word = word;
    narrowed = narrowed_all _ _ searchable;
    room = omega (arith, room, digits_word (length (g.cumulatives rows)) word);
  }

  -- a search of all rows that came to one row found it
  module _ (new : P) (first left : ℕ) (n : Narrows g rows q (length (g.cumulatives rows)) new first left) (one : left ≤ 1) where
    -- its row is the last one that begins at or below the quantile
    pub found : IsSearchable (g.cumulatives rows) (g.number q) → IsLastAtMost (g.cumulatives rows) (g.number q) first
    found searchable = narrowed_one _ _ searchable first left (rw (← n.same) n.narrowed) one

    -- it asked as many questions as one less than the number of rows has binary digits
    pub counted_all : g.questions new ≡ g.questions rows + digits (length (g.cumulatives rows) - 1)
    counted_all = let none : left - 1 ≡ 0 = omega (arith, one) in omega (arith, rw (none, digits-zero) at n.counted)
