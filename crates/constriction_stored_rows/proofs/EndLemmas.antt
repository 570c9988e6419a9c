-- The ends of rows, as words. A row's weight is its end minus its left cumulative.
use Rattle.std.proofs.Common.{◌≡◌, ℕ, ◌+◌, ◌-◌, ◌%◌, ◌^◌, ◌<◌, ◌≤◌, List, [], ◌∷◌, ◌++◌, length, get_or, map, take, nat_lt, ap, sym, refl, ◌∙◌, arith, inl, inr}
use Rattle.std.proofs.Math.Nat.{mod-eq_of_lt, mod-lt, pow-le-pow_right}
use Rattle.std.proofs.lemmas.Bool.{cases_lt}
use Rattle.std.proofs.lemmas.Bool.Decides.{nat_tests}
use Rattle.std.specs.Int.{from_bool}
use Rattle.std.proofs.lemmas.Nat.{pow_pos}
use Rattle.std.proofs.lemmas.List.{length-append, length-map, get_or_append_left, get_or-append_right, get_or_default, get_or_past, append_assoc, map_push, map_more}
use Rattle.constriction_model.proofs.Differences.{difference-mod}
use Rattle.constriction_stored_rows.specs.Stored.{IsStored, AreEndWords, end_at, total_of, with_total, weights_of}
use Rattle.constriction_stored_rows.specs.lemmas.Stored.{stored-row, read-whole, take-length}

module _ (bits precision : ℕ) (lefts : List ℕ) where
  -- a row ends where the next row begins
  pub end-next : (i : ℕ) → i + 1 < length lefts → end_at bits precision lefts i ≡ get_or lefts (i + 1) 0
  end-next i h = get_or_default lefts (i + 1) (total_of bits precision) 0 h

  -- the last row ends at the total
  pub end-last : (i : ℕ) → length lefts ≤ i + 1 → end_at bits precision lefts i ≡ total_of bits precision
  end-last i h = get_or_past lefts (i + 1) (total_of bits precision) h

  module _ (t : IsStored bits precision lefts) (narrow : precision ≤ bits) where
    -- a row ends at its left cumulative plus its weight, modulo 2 ^ bits
    pub row-ends : (i : ℕ) → i < length lefts
        → end_at bits precision lefts i ≡ (get_or (weights_of precision lefts) i 0 + get_or lefts i 0) % 2 ^ bits
    row-ends i h =
        let row = stored-row bits precision lefts i t h in
        let below : 2 ^ precision ≤ 2 ^ bits = pow-le-pow_right {n = 2} (omega arith) narrow in
        elim (cases_lt (i + 1) (length lefts)) [
          | inl more ↦
              let later = stored-row bits precision lefts (i + 1) t more in
              let same : get_or lefts (i + 1) 0 ≡ get_or (weights_of precision lefts) i 0 + get_or lefts i 0 =
              omega (arith, row.next more) in
              let small : get_or (weights_of precision lefts) i 0 + get_or lefts i 0 < 2 ^ bits =
              omega (arith, later.positive, later.within) in
              end-next i more ∙ same ∙ sym (mod-eq_of_lt small)
          | inr none ↦
              let end : i + 1 ≡ length lefts = omega arith in
              let all : get_or (weights_of precision lefts) i 0 + get_or lefts i 0 ≡ 2 ^ precision = omega (arith, row.last end) in
              end-last i (omega arith) ∙ ap (λ n. n % 2 ^ bits) (sym all)
        ]

    -- so its weight is the difference
    pub row-weight : (i left end weight : ℕ) → i < length lefts → get_or lefts i 0 ≡ left → end ≡ end_at bits precision lefts i
        → weight < 2 ^ bits → (weight + left) % 2 ^ bits ≡ end → weight ≡ get_or (weights_of precision lefts) i 0
    row-weight i left end weight h here is small e =
        let row = stored-row bits precision lefts i t h in
        let below : 2 ^ precision ≤ 2 ^ bits = pow-le-pow_right {n = 2} (omega arith) narrow in
        let low : left < 2 ^ bits = omega (arith, row.within, row.positive, here) in
        difference-mod (2 ^ bits) weight (get_or (weights_of precision lefts) i 0) left small row.fits low
        (e ∙ is ∙ row-ends i h ∙ ap (λ k. (get_or (weights_of precision lefts) i 0 + k) % 2 ^ bits) here)

  -- with the total after the left cumulatives, the next number is the end of a row
  pub end-in : (i : ℕ) → i < length lefts → get_or (with_total bits precision lefts) (i + 1) 0 ≡ end_at bits precision lefts i
  end-in i h = elim (cases_lt (i + 1) (length lefts)) [
    | inl more ↦ get_or_append_left lefts (total_of bits precision ∷ []) 0 (i + 1) more ∙ sym (end-next i more)
    | inr none ↦
        let first : i + 1 - length lefts ≡ 0 = omega arith in
        get_or-append_right lefts (total_of bits precision ∷ []) (length lefts) (i + 1) 0 refl none
        ∙ ap (λ n. get_or (total_of bits precision ∷ []) n 0) first ∙ sym (end-last i none)
  ]

  -- so is the next word
  module _ {Word : Type 0} (whole : Word → ℕ) (cdf : List Word) (e : map whole cdf ≡ with_total bits precision lefts) where
    -- there is one word more than left cumulatives
    pub among-long : length cdf ≡ length lefts + 1
    among-long = sym (length-map cdf whole) ∙ ap length e ∙ length-append lefts (total_of bits precision ∷ [])

    -- the word after that of a row's left cumulative is the end of the row
    pub among-end : (i : ℕ) (x : Word) → i < length lefts → x ≡ get_or cdf (i + 1) x → whole x ≡ end_at bits precision lefts i
    among-end i x h is =
        sym (read-whole whole cdf (i + 1) x (omega (arith, among-long)) is) ∙ ap (λ ns. get_or ns (i + 1) 0) e ∙ end-in i h

-- with one or two rows, the end words are the ends of the first and of the last row
pub end_words-few : (bits precision : ℕ) (lefts : List ℕ) (first last : ℕ) → length lefts ≤ 2 → first ≡ end_at bits precision lefts 0
    → last ≡ total_of bits precision → AreEndWords bits precision lefts (first ∷ last ∷ [])
end_words-few bits precision lefts first last few is is_last = record {
  two = refl;
  ends = λ _. ap (λ n. n ∷ last ∷ []) is ∙ ap (λ n. end_at bits precision lefts 0 ∷ n ∷ []) is_last;
  fits = λ many. absurd (omega arith);
  leads = λ many. absurd (omega arith);
  none = λ many. absurd (omega arith);
}

-- with more rows, the first one is the last left cumulative minus the total, and the second one is 0
pub end_words-many : (bits precision : ℕ) (lefts : List ℕ) (first none : ℕ) → 2 < length lefts → first < 2 ^ bits
    → (first + total_of bits precision) % 2 ^ bits ≡ get_or lefts (length lefts - 1) 0 → none ≡ 0
    → AreEndWords bits precision lefts (first ∷ none ∷ [])
end_words-many bits precision lefts first none many range difference is =
    let turned : total_of bits precision + first ≡ first + total_of bits precision = omega arith in
    record {
      two = refl;
      ends = λ few. absurd (omega arith);
      fits = λ _. range;
      leads = λ _. ap (λ n. n % 2 ^ bits) turned ∙ difference;
      none = λ _. is;
    }

-- the left cumulatives of the entries so far, and of one more
pub pushed-left : {Word Entry : Type 0} (whole : Word → ℕ) (left_of : Entry → ℕ) (before : List ℕ) (all more : List Word)
    (entries : List Entry) (i : ℕ) (w : Word) (x : Entry) → map whole all ≡ before ++ map left_of (take i entries)
    → more ≡ all ++ w ∷ [] → i < length entries
    → x ≡ get_or entries i x → whole w ≡ left_of x → map whole more ≡ before ++ map left_of (take (i + 1) entries)
pushed-left whole left_of before all more entries i w x so_far pushed h is reads =
    ap (map whole) pushed ∙ map_push whole all w ∙ ap (λ ns. ns ++ whole w ∷ []) so_far
    ∙ append_assoc before (map left_of (take i entries)) (whole w ∷ [])
    ∙ ap (λ n. before ++ (map left_of (take i entries) ++ n ∷ [])) (reads ∙ ap left_of is)
    ∙ ap (λ ns. before ++ ns) (sym (map_more left_of entries i x h))

-- the left cumulatives of all entries, and then the total
pub pushed-total : {Word Entry : Type 0} (whole : Word → ℕ) (left_of : Entry → ℕ) (bits precision : ℕ) (before : List ℕ)
    (all more : List Word) (entries : List Entry) (i : ℕ) (w : Word) → map whole all ≡ before ++ map left_of (take i entries)
    → i ≡ length entries → more ≡ all ++ w ∷ []
    → whole w ≡ total_of bits precision → map whole more ≡ before ++ with_total bits precision (map left_of entries)
pushed-total whole left_of bits precision before all more entries i w so_far end pushed is =
    ap (map whole) pushed ∙ map_push whole all w
    ∙ ap (λ ns. ns ++ whole w ∷ []) (so_far ∙ ap (λ xs. before ++ map left_of xs) (ap (λ n. take n entries) end ∙ take-length entries))
    ∙ append_assoc before (map left_of entries) (whole w ∷ [])
    ∙ ap (λ n. before ++ (map left_of entries ++ n ∷ [])) is

-- the entry by which a row ends, and the end word beside it: those after the first ones, except at the last row
pub entry_ending-within : (i n r : ℕ) → i < n → r ≡ from_bool (nat_lt i (n - 1)) → (r ≤ 1) × (i + r < n)
entry_ending-within i n r h e = grind (arith, nat_tests)

-- the ends of rows, by the two end words
module _ {Word : Type 0} (whole : Word → ℕ) (bits precision : ℕ) (lefts : List ℕ) (end_words : List Word)
    (b : AreEndWords bits precision lefts (map whole end_words)) where
  -- they are two
  pub end_words-two : length end_words ≡ 2
  end_words-two = sym (length-map end_words whole) ∙ b.two

  -- with more than two rows, the next left cumulative minus the second end word
  pub end_words-next : (i r : ℕ) (x : Word) → 2 < length lefts → i + 1 < length lefts → x ≡ get_or end_words 1 x → r < 2 ^ bits
      → (r + whole x) % 2 ^ bits ≡ get_or lefts (i + 1) 0 → r ≡ end_at bits precision lefts i
  end_words-next i r x many h is small e =
      let zero : whole x ≡ 0 = sym (read-whole whole end_words 1 x (omega (arith, end_words-two)) is) ∙ b.none many in
      let same : r + whole x ≡ r = omega (arith, zero) in
      sym (mod-eq_of_lt small) ∙ ap (λ n. n % 2 ^ bits) (sym same) ∙ e ∙ sym (end-next bits precision lefts i h)

  -- and the last row's own left cumulative minus the first end word
  pub end_words-last : (i r : ℕ) (x : Word) → 2 < length lefts → i + 1 ≡ length lefts → x ≡ get_or end_words 0 x → r < 2 ^ bits
      → (r + whole x) % 2 ^ bits ≡ get_or lefts i 0 → r ≡ end_at bits precision lefts i
  end_words-last i r x many h is small e =
      let known : get_or (map whole end_words) 0 0 ≡ whole x = read-whole whole end_words 0 x (omega (arith, end_words-two)) is in
      let fits : whole x < 2 ^ bits = omega (arith, known, b.fits many) in
      let last : length lefts - 1 ≡ i = omega arith in
      let leads : (total_of bits precision + whole x) % 2 ^ bits ≡ get_or lefts i 0 =
      ap (λ n. (total_of bits precision + n) % 2 ^ bits) (sym known) ∙ b.leads many ∙ ap (λ n. get_or lefts n 0) last in
      let total : total_of bits precision < 2 ^ bits = mod-lt _ (pow_pos bits) in
      difference-mod (2 ^ bits) r (total_of bits precision) (whole x) small total fits (e ∙ sym leads)
      ∙ sym (end-last bits precision lefts i (omega arith))
