-- Tables that end with the total, and differences of their neighbours.
use Rattle.std.proofs.Common.{◌≡◌, ◌↔◌, ℕ, ◌+◌, ◌-◌, ◌%◌, ◌^◌, ◌<◌, ◌≤◌, List, [], ◌∷◌, ◌++◌, length, get_or, map, refl, ap, sym, ◌∙◌, subst, arith, inl, inr}
use Rattle.std.specs.Prelude.{take}
use Rattle.std.proofs.Math.Nat.{mod-eq_of_lt, pow-le-pow_right}
use Rattle.std.proofs.Math.Seq.{take-append_seam}
use Rattle.std.proofs.lemmas.Bool.{cases_lt}
use Rattle.std.proofs.lemmas.List.{length-append, get_or_append_left, get_or-append_right, map_push, same_from_push}
use Rattle.constriction_model.specs.Acceptance.{IsAccepted}
use Rattle.constriction_model.proofs.Differences.{difference-mod}
use Rattle.constriction_stored_rows.specs.Stored.{IsStored, IsCdf, lefts_in, lefts_from, weights_of}
use Rattle.constriction_model.specs.Rows.{contiguous_rows}
use Rattle.constriction_stored_rows.specs.lemmas.StoredRows.{rows-many}
use Rattle.constriction_stored_rows.specs.lemmas.Stored.{IsRowAt, stored-row, stored-of}

-- all of a list but its last item
pub all-but_last : {A : Type 0} (items all : List A) (last : A) → all ≡ items ++ last ∷ [] → take (length all - 1) all ≡ items
all-but_last items all last e =
    let long : length all - 1 ≡ length items = rw e (omega (arith, length-append items (last ∷ []))) in
    rw long (ap (take (length items)) e ∙ take-append_seam items (last ∷ []))

-- accepted weights, the cdf that is filled from them, and back
pub cdf-of : (bits precision : ℕ) (cdf ws : List ℕ) → IsAccepted bits precision ws
    → cdf ≡ lefts_from 0 ws ++ (2 ^ precision % 2 ^ bits) ∷ []
    → IsCdf bits precision cdf × (weights_of precision (lefts_in cdf) ≡ ws)
cdf-of bits precision cdf ws a e =
    let lefts : lefts_in cdf ≡ lefts_from 0 ws = all-but_last (lefts_from 0 ws) cdf _ e in
    let stored = stored-of bits precision (lefts_in cdf) ws lefts a in
    (record { stored = stored.0; ends = rw lefts e }, stored.1)

-- words are a cdf if the last one is the total, and those before it are the left cumulatives of accepted weights
pub cdf-split : {W : Type 0} (whole : W → ℕ) (bits precision : ℕ) (words lefts : List W) (total : W) → words ≡ lefts ++ total ∷ []
    → IsCdf bits precision (map whole words)
    ↔ ((whole total ≡ 2 ^ precision % 2 ^ bits) × IsStored bits precision (map whole lefts))
cdf-split whole bits precision words lefts total e =
    let numbers : map whole words ≡ map whole lefts ++ whole total ∷ [] = ap (map whole) e ∙ map_push whole lefts total in (
      (λ t.
          let same = same_from_push (map whole lefts) _ (whole total) _ (sym numbers ∙ t.ends) in
          (same.1, subst (IsStored bits precision) (sym same.0) t.stored)),
      (λ h.
          let held = all-but_last (map whole lefts) (map whole words) (whole total) numbers in
          record { stored = rw held h.1; ends = rw held (numbers ∙ ap (λ n. map whole lefts ++ n ∷ []) h.0) }),
    )

module _ (bits precision : ℕ) (cdf : List ℕ) (t : IsCdf bits precision cdf) where
  -- a cdf has one word more than rows
  pub cdf-long : length cdf ≡ length (lefts_in cdf) + 1
  cdf-long = ap length t.ends ∙ length-append (lefts_in cdf) ((2 ^ precision % 2 ^ bits) ∷ [])

  -- its words are the left cumulatives of its rows
  pub cdf-here : (i : ℕ) → i + 1 < length cdf → get_or cdf i 0 ≡ get_or (lefts_in cdf) i 0
  cdf-here i h =
      let within : i < length (lefts_in cdf) = omega (arith, cdf-long) in
      ap (λ xs. get_or xs i 0) t.ends ∙ get_or_append_left (lefts_in cdf) ((2 ^ precision % 2 ^ bits) ∷ []) 0 i within

  -- the row at an index has the left cumulative and the weight there
  pub cdf-row : (i : ℕ) → i + 1 < length cdf
      → IsRowAt bits precision (lefts_in cdf) i (get_or (weights_of precision (lefts_in cdf)) i 0)
  cdf-row i h = stored-row bits precision (lefts_in cdf) i t.stored (omega (arith, cdf-long))

  -- the word after a row's is the end of the row, modulo 2 ^ bits
  pub cdf-next : (i : ℕ) → precision ≤ bits → i + 1 < length cdf
      → get_or cdf (i + 1) 0
      ≡ (get_or (weights_of precision (lefts_in cdf)) i 0 + get_or (lefts_in cdf) i 0) % 2 ^ bits
  cdf-next i narrow h =
      let row = cdf-row i h in
      let below : 2 ^ precision ≤ 2 ^ bits = pow-le-pow_right {n = 2} (omega arith) narrow in
      elim (cases_lt (i + 1 + 1) (length cdf)) [
        | inl more ↦
            let later = cdf-row (i + 1) more in
            let next : get_or (lefts_in cdf) (i + 1) 0
            ≡ get_or (weights_of precision (lefts_in cdf)) i 0 + get_or (lefts_in cdf) i 0 =
            omega (arith, row.next (omega (arith, cdf-long))) in
            let small : get_or (weights_of precision (lefts_in cdf)) i 0 + get_or (lefts_in cdf) i 0 < 2 ^ bits =
            omega (arith, later.positive, later.within) in
            cdf-here (i + 1) more ∙ next ∙ sym (mod-eq_of_lt small)
        | inr last ↦
            let end : i + 1 ≡ length (lefts_in cdf) = omega (arith, cdf-long) in
            let all : get_or (weights_of precision (lefts_in cdf)) i 0 + get_or (lefts_in cdf) i 0 ≡ 2 ^ precision =
            omega (arith, row.last end) in
            let at_end : i + 1 - length (lefts_in cdf) ≡ 0 = omega arith in
            ap (λ xs. get_or xs (i + 1) 0) t.ends
            ∙ get_or-append_right (lefts_in cdf) ((2 ^ precision % 2 ^ bits) ∷ []) (length (lefts_in cdf)) (i + 1) 0 refl
            (omega arith)
            ∙ ap (λ k. get_or ((2 ^ precision % 2 ^ bits) ∷ []) k 0) at_end
            ∙ ap (λ n. n % 2 ^ bits) (sym all)
      ]

-- the weight of a row is its end minus its beginning, modulo 2 ^ bits
pub cdf-weight : (bits precision : ℕ) (cdf : List ℕ) (i left next weight : ℕ) → IsCdf bits precision cdf
    → precision ≤ bits → i + 1 < length cdf
    → get_or cdf i 0 ≡ left → get_or cdf (i + 1) 0 ≡ next → weight < 2 ^ bits → (weight + left) % 2 ^ bits ≡ next
    → weight ≡ get_or (weights_of precision (lefts_in cdf)) i 0
cdf-weight bits precision cdf i left next weight t narrow h l n small e =
    let row = cdf-row bits precision cdf t i h in
    let below : 2 ^ precision ≤ 2 ^ bits = pow-le-pow_right {n = 2} (omega arith) narrow in
    let here : get_or (lefts_in cdf) i 0 ≡ left = sym (cdf-here bits precision cdf t i h) ∙ l in
    let low : left < 2 ^ bits = omega (arith, row.within, row.positive) in
    difference-mod (2 ^ bits) weight (get_or (weights_of precision (lefts_in cdf)) i 0) left small row.fits low
    (e ∙ sym n ∙ cdf-next bits precision cdf t i narrow h
    ∙ ap (λ k. (get_or (weights_of precision (lefts_in cdf)) i 0 + k) % 2 ^ bits) here)

-- there are as many rows as words, less one
pub cdf-rows : (bits precision : ℕ) (cdf : List ℕ) → IsCdf bits precision cdf
    → length (contiguous_rows (weights_of precision (lefts_in cdf))) + 1 ≡ length cdf
cdf-rows bits precision cdf t =
    omega (arith, rows-many precision (lefts_in cdf), cdf-long bits precision cdf t)
