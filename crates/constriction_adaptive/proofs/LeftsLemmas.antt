-- Left cumulatives that increase, and how they move.
use Rattle.std.specs.Prelude.{◌≡◌, ℕ, ◌+◌, ◌-◌, ◌*◌, ◌/◌, ◌^◌, ◌<◌, ◌≤◌, List, [], ◌∷◌, ◌++◌, length, map, min, take, nat_le}
use Rattle.std.specs.List.{range_with_len}
use Rattle.std.proofs.Common.{zero, suc, get_or, refl, ap, sym, subst, ◌∙◌, add-one, arith, inl, inr}
use Rattle.std.proofs.Math.Nat.{div-le_self, div-lt_iff_lt-mul, le-mul_of_pos_right, lt-div-mul-add, mul-div-le, mul-le-mul_right, pow-le-pow_right}
use Rattle.std.proofs.lemmas.Bool.{cases_lt, cond-true, cond-false, le-leb, lt-leb}
use Rattle.std.proofs.lemmas.List.FromFn.{get_or-map-range_with_len, length-map-range_with_len}
use Rattle.std.proofs.lemmas.Nat.{pow_pos}
use Rattle.constriction_stored_rows.specs.Stored.{IsStored, weights_of}
use Rattle.constriction_stored_rows.specs.lemmas.Stored.{stored-first, stored-row, stored-some}
use Rattle.constriction_stored_rows.proofs.JudgeLemmas.{AreBegun, begun-next, stored-end}
use Rattle.constriction_adaptive.specs.Categorical.{even_lefts, left_after, lefts_after}

-- ---- left cumulatives that increase

module _ (first : ℕ) (rest : List ℕ) (begins : first ≡ 0)
    (more : (k : ℕ) → k < length rest → get_or (first ∷ rest) k 0 < get_or rest k 0) where
  begun-all : (i : ℕ) → i ≤ length rest → (weights : List ℕ) × AreBegun (first ∷ take i rest) weights (get_or (first ∷ rest) i 0)
  begun-all zero h =
      ([], record { positive = λ k d g. absurd (omega (arith, g)); lefts = ap (λ l. l ∷ []) begins; next = begins })
  begun-all (suc i) h =
      let before = begun-all i (omega (arith, h)) in
      let here : i < length rest = omega (arith, h) in
      let next = begun-next first rest before.0 i (get_or (first ∷ rest) i 0) (get_or rest i 0) before.1 here refl (more i here) in (
        before.0 ++ (get_or rest i 0 - get_or (first ∷ rest) i 0) ∷ [],
        subst
            (λ n. AreBegun (first ∷ take n rest) (before.0 ++ (get_or rest i 0 - get_or (first ∷ rest) i 0) ∷ []) (get_or rest i 0))
            (add-one i) next,
      )

  -- each but the first is above 0
  above-first : (k : ℕ) → k ≤ length rest → 0 < k → 0 < get_or (first ∷ rest) k 0
  above-first zero h some = absurd (omega (arith, some))
  above-first (suc k) h some = let less = more k (omega (arith, h)) in omega (arith, less)

  increasing-stored : (precision : ℕ) → precision ≤ 32 → 2 ^ precision < 2 ^ 32 + length rest
      → get_or (first ∷ rest) (length rest) 0 < 2 ^ precision → IsStored 32 precision (first ∷ rest)
  increasing-stored precision narrow some last =
      let n : ℕ = length rest in
      let end : ℕ = get_or (first ∷ rest) n 0 in
      let wide : 2 ^ precision ≤ 2 ^ 32 = pow-le-pow_right {n = 2} (omega arith) narrow in
      let all = begun-all n (omega arith) in
      let room : 2 ^ precision - 1 - end + 1 < 2 ^ 32 =
      elim (cases_lt 0 n) [
        | inl others ↦ let less = above-first n (omega arith) others in omega (arith, wide, last, less)
        | inr one ↦ omega (arith, some, last, one)
      ] in
      stored-end 32 precision (first ∷ rest) rest first n end refl refl all.0 (2 ^ precision - 1 - end) wide all.1 refl
      (omega (arith, last)) room

head-each : (f : ℕ → ℕ) (rest : List ℕ) (n : ℕ) → ((k : ℕ) → k < n → get_or rest k 0 ≡ f (k + 1))
    → (k : ℕ) → k ≤ n → get_or (f 0 ∷ rest) k 0 ≡ f k
head-each f rest n each zero h = refl
head-each f rest n each (suc k) h = each k (omega (arith, h)) ∙ ap f (add-one k)

-- numbers that increase from 0 to below 2 ^ precision are stored left cumulatives
map-stored : (precision : ℕ) (f : ℕ → ℕ) (many n : ℕ) → many ≡ suc n → precision ≤ 32 → 2 ^ precision < 2 ^ 32 + n → f 0 ≡ 0
    → ((k : ℕ) → k < n → f k < f (k + 1)) → f n < 2 ^ precision → IsStored 32 precision (map f (range_with_len 0 many))
map-stored precision f many n e narrow some first more last =
    let rest : List ℕ = map f (range_with_len 1 n) in
    let long : length rest ≡ n = length-map-range_with_len f 1 n in
    let each : (k : ℕ) → k < n → get_or rest k 0 ≡ f (k + 1) =
    (λ k h. get_or-map-range_with_len f 1 n k (k + 1) 0 h (omega arith)) in
    let all = head-each f rest n each in
    let end : get_or (f 0 ∷ rest) (length rest) 0 ≡ f n = ap (λ k. get_or (f 0 ∷ rest) k 0) long ∙ all n (omega arith) in
    let stored : IsStored 32 precision (f 0 ∷ rest) =
    increasing-stored (f 0) rest first
    (λ k h.
    let here : k < n = omega (arith, h, long) in
    let less = more k here in omega (arith, all k (omega (arith, here)), each k here, less))
    precision narrow (omega (arith, some, long)) (omega (arith, end, last)) in
    subst (λ m. IsStored 32 precision (map f (range_with_len 0 m))) (sym e) stored

-- ---- where stored left cumulatives lie

module _ (precision : ℕ) (lefts : List ℕ) (t : IsStored 32 precision lefts) where
  -- each symbol before has a quantile
  pub stored-least : (i : ℕ) → i < length lefts → i ≤ get_or lefts i 0
  stored-least zero h = omega arith
  stored-least (suc i) h =
      let row = stored-row 32 precision lefts i t (omega (arith, h)) in
      let before = stored-least i (omega (arith, h)) in
      let e : suc i ≡ i + 1 = omega arith in
      let next : get_or lefts (suc i) 0 ≡ get_or lefts i 0 + get_or (weights_of precision lefts) i 0 =
      ap (λ k. get_or lefts k 0) e ∙ row.next (omega (arith, h)) in
      omega (arith, before, next, row.positive)

  -- and so has each symbol from it on
  stored-room : (k i : ℕ) → i + k + 1 ≡ length lefts → get_or lefts i 0 + k + 1 ≤ 2 ^ precision
  stored-room zero i e = let row = stored-row 32 precision lefts i t (omega (arith, e)) in omega (arith, row.positive, row.within)
  stored-room (suc k) i e =
      let row = stored-row 32 precision lefts i t (omega (arith, e)) in
      let after = stored-room k (i + 1) (omega (arith, e)) in
      omega (arith, row.positive, row.next (omega (arith, e)), after)

  -- each left cumulative leaves the rows from it on a quantile each
  pub stored-most : (i : ℕ) → i < length lefts → get_or lefts i 0 + (length lefts - i) ≤ 2 ^ precision
  stored-most i h =
      let room = stored-room (length lefts - i - 1) i (omega (arith, h)) in omega (arith, room, h)

  -- the only symbol has a weight that is a word
  stored-wide : precision ≤ 32 → 2 ^ precision < 2 ^ 32 + (length lefts - 1)
  stored-wide narrow =
      let some = stored-some 32 precision lefts t in
      let wide : 2 ^ precision ≤ 2 ^ 32 = pow-le-pow_right {n = 2} (omega arith) narrow in
      elim (cases_lt 1 (length lefts)) [
        | inl more ↦ omega (arith, wide, more)
        | inr one ↦
            let row = stored-row 32 precision lefts 0 t some in
            let first = stored-first 32 precision lefts t in
            omega (arith, row.last (omega (arith, one, some)), row.fits, first)
      ]

-- ---- moving

div-steps : (r a x : ℕ) → 0 < r → (a + x) / r ≤ a / r + x
div-steps r a x some =
    let most : a < a / r * r + r = lt-div-mul-add some in
    let more : x ≤ x * r = le-mul_of_pos_right x some in
    let less : (a + x) / r < a / r + x + 1 = (div-lt_iff_lt-mul some).1 (omega (arith, most, more)) in
    omega (arith, less)

module _ (rate others symbol : ℕ) where
  pub left-down : (i l : ℕ) → i ≤ symbol → left_after rate others symbol i l ≡ l - (l - i) / 2 ^ rate
  left-down i l h = cond-true (nat_le i symbol) _ _ (le-leb i symbol h)

  pub left-up : (i l : ℕ) → symbol < i → left_after rate others symbol i l ≡ l + (others + i - l) / 2 ^ rate
  left-up i l h = cond-false (nat_le i symbol) _ _ (lt-leb i symbol h)

  down-more : (i l m : ℕ) → i ≤ l → l < m → l - (l - i) / 2 ^ rate < m - (m - (i + 1)) / 2 ^ rate
  down-more i l m least less =
      let far : m - (i + 1) ≡ (l - i) + (m - 1 - l) = omega (arith, least, less) in
      let same : (m - (i + 1)) / 2 ^ rate ≡ ((l - i) + (m - 1 - l)) / 2 ^ rate = ap (λ n. n / 2 ^ rate) far in
      omega (arith, least, less, same, div-steps (2 ^ rate) (l - i) (m - 1 - l) (pow_pos rate), div-le_self (l - i) (2 ^ rate))

  up-more : (i l m : ℕ) → l < m → m ≤ others + (i + 1) → l + (others + i - l) / 2 ^ rate < m + (others + (i + 1) - m) / 2 ^ rate
  up-more i l m less most =
      let far : others + i - l ≡ (others + (i + 1) - m) + (m - 1 - l) = omega (arith, less, most) in
      let same : (others + i - l) / 2 ^ rate ≡ ((others + (i + 1) - m) + (m - 1 - l)) / 2 ^ rate = ap (λ n. n / 2 ^ rate) far in
      omega (arith, less, same, div-steps (2 ^ rate) (others + (i + 1) - m) (m - 1 - l) (pow_pos rate))

  moved-more : (i l m : ℕ) → i ≤ l → l < m → m ≤ others + (i + 1)
      → left_after rate others symbol i l < left_after rate others symbol (i + 1) m
  moved-more i l m least less most =
      elim (cases_lt i symbol) [
        | inl before ↦
            let here = left-down i l (omega (arith, before)) in
            let next = left-down (i + 1) m (omega (arith, before)) in
            omega (arith, here, next, down-more i l m least less)
        | inr from ↦
            let next = left-up (i + 1) m (omega (arith, from)) in
            elim (cases_lt symbol i) [
              | inl after ↦ let here = left-up i l after in omega (arith, here, next, up-more i l m less most)
              | inr same ↦ let here = left-down i l same in omega (arith, here, next, less)
            ]
      ]

  moved-most : (i l : ℕ) → l ≤ others + i → left_after rate others symbol i l ≤ others + i
  moved-most i l most =
      elim (cases_lt symbol i) [
        | inl after ↦ let here = left-up i l after in omega (arith, here, most, div-le_self (others + i - l) (2 ^ rate))
        | inr until ↦ let here = left-down i l until in omega (arith, here, most)
      ]

-- left cumulatives that moved are stored left cumulatives
pub moved-stored : (precision rate symbol : ℕ) (lefts : List ℕ) → precision ≤ 32 → IsStored 32 precision lefts
    → IsStored 32 precision (lefts_after precision rate lefts symbol)
moved-stored precision rate symbol lefts narrow t =
    let some = stored-some 32 precision lefts t in
    let others : ℕ = 2 ^ precision - length lefts in
    let all = stored-most precision lefts t 0 some in
    let first : get_or lefts 0 0 ≡ 0 = stored-first 32 precision lefts t in
    map-stored precision (λ i. left_after rate others symbol i (get_or lefts i 0)) (length lefts) (length lefts - 1)
    (omega (arith, some)) narrow (stored-wide precision lefts t narrow)
    (left-down rate others symbol 0 (get_or lefts 0 0) (omega arith) ∙ omega (arith, first))
    (λ k h.
    let row = stored-row 32 precision lefts k t (omega (arith, h)) in
    moved-more rate others symbol k (get_or lefts k 0) (get_or lefts (k + 1) 0) (stored-least precision lefts t k (omega (arith, h)))
    (omega (arith, row.positive, row.next (omega (arith, h))))
    (omega (arith, h, all, stored-most precision lefts t (k + 1) (omega (arith, h)))))
    (let n : ℕ = length lefts - 1 in
    let end = stored-most precision lefts t n (omega (arith, some)) in
    omega (arith, some, all, end, moved-most rate others symbol n (get_or lefts n 0) (omega (arith, some, all, end))))

-- what two loops leave of left cumulatives, the first ones and then the others, is where they move
pub moved-each : (rate others symbol last many : ℕ) (old mid new lefts : List ℕ) → last ≡ min symbol (many - 1) → 0 < many
    → ((k : ℕ) → k < many → get_or old k 0 ≡ get_or lefts k 0)
    → ((k : ℕ) → k < last + 1 → get_or mid k 0 ≡ get_or old k 0 - (get_or old k 0 - k) / 2 ^ rate)
    → ((k : ℕ) → last + 1 ≤ k → get_or mid k 0 ≡ get_or old k 0)
    → ((k : ℕ) → k < last + 1 → get_or new k 0 ≡ get_or mid k 0)
    → ((k : ℕ) → last + 1 ≤ k → k < many → get_or new k 0 ≡ get_or mid k 0 + (others + k - get_or mid k 0) / 2 ^ rate)
    → (k : ℕ) → k < many → get_or new k 0 ≡ left_after rate others symbol k (get_or lefts k 0)
moved-each rate others symbol last many old mid new lefts e some is lowered untouched kept raised k h =
    elim (cases_lt k (last + 1)) [
      | inl low ↦
          let until : k ≤ symbol = omega (arith, low, e) in
          kept k low ∙ lowered k low ∙ ap (λ l. l - (l - k) / 2 ^ rate) (is k h)
          ∙ sym (left-down rate others symbol k (get_or lefts k 0) until)
      | inr high ↦
          let after : symbol < k = omega (arith, high, h, e) in
          raised k high h ∙ ap (λ l. l + (others + k - l) / 2 ^ rate) (untouched k high ∙ is k h)
          ∙ sym (left-up rate others symbol k (get_or lefts k 0) after)
    ]

-- ---- symbols that are all as likely

-- a product with a quotient stays below what was divided
pub shares-within : (whole many i : ℕ) → 0 < many → many ≤ whole → i < many
    → (0 < whole / many) × (i * (whole / many) + whole / many ≤ whole)
shares-within whole many i some few h =
    let share : ℕ = whole / many in
    let all : many * share ≤ whole = mul-div-le whole many in
    let part : (i + 1) * share ≤ many * share = mul-le-mul_right share (omega (arith, h)) in
    let most : whole < share * many + many = lt-div-mul-add some in (
      elim (cases_lt 0 share) [
        | inl positive ↦ positive
        | inr none ↦ let is : share ≡ 0 = omega (arith, none) in absurd (omega (arith, few, subst (λ s. whole < s * many + many) is most))
      ],
      omega (arith, all, part),
    )

-- the left cumulatives of even weights are stored as rows are
pub even-stored : (precision symbols : ℕ) → precision ≤ 32 → 0 < symbols → symbols ≤ 2 ^ precision → 2 ^ precision < 2 ^ 32 * symbols
    → IsStored 32 precision (even_lefts precision symbols)
even-stored precision symbols narrow some few word =
    let share : ℕ = 2 ^ precision / symbols in
    let wide : 2 ^ precision ≤ 2 ^ 32 = pow-le-pow_right {n = 2} (omega arith) narrow in
    let last = shares-within (2 ^ precision) symbols (symbols - 1) some few (omega (arith, some)) in
    map-stored precision (λ i. i * share) symbols (symbols - 1) (omega (arith, some)) narrow (omega (arith, some, wide, word)) (omega arith)
    (λ k h. omega (arith, last.0))
    (omega (arith, last.0, last.1))
