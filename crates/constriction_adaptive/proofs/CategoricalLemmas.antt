-- A cdf whose left cumulatives move.
use Rattle.std.specs.Prelude.{◌≡◌, ℕ, ◌+◌, ◌-◌, ◌*◌, ◌/◌, ◌%◌, ◌^◌, ◌<◌, ◌≤◌, List, [], ◌∷◌, ◌++◌, length, map, take, min}
use Rattle.std.specs.List.{range_with_len}
use Rattle.std.proofs.Common.{get_or, ap, sym, subst, ◌∙◌, arith, inl, inr}
use Rattle.std.proofs.Math.Seq.{get_or-append_seam}
use Rattle.std.proofs.lemmas.Bool.{cases_lt}
use Rattle.std.proofs.lemmas.List.{get_or-take, length-take-le, take_all, take_more}
use Rattle.std.proofs.lemmas.List.FromFn.{fill_by_all}
use Rattle.constriction_stored_rows.specs.Stored.{IsCdf, IsStored, lefts_in}
use Rattle.constriction_stored_rows.specs.lemmas.Stored.{stored-some}
use Rattle.constriction_stored_rows.proofs.CdfLemmas.{all-but_last, cdf-here, cdf-long}
use Rattle.constriction_adaptive.specs.Categorical.{even_lefts, left_after, lefts_after}
use Rattle.constriction_adaptive.proofs.LeftsLemmas.{even-stored, moved-each, moved-stored, stored-least, stored-most}

-- a cdf whose left cumulatives are known
pub cdf-made : (precision : ℕ) (cdf : List ℕ) (f : ℕ → ℕ) (many : ℕ) → length cdf ≡ many + 1
    → ((k : ℕ) → k < many → get_or cdf k 0 ≡ f k) → get_or cdf many 0 ≡ 2 ^ precision % 2 ^ 32
    → IsStored 32 precision (map f (range_with_len 0 many))
    → IsCdf 32 precision cdf × (lefts_in cdf ≡ map f (range_with_len 0 many))
cdf-made precision cdf f many long each last stored =
    let count : many ≡ length cdf - 1 = omega (arith, long) in
    let here : take many cdf ≡ lefts_in cdf = ap (λ n. take n cdf) count in
    let filled : take many cdf ≡ map f (range_with_len 0 many) =
    fill_by_all f (take many cdf) many 0 (length-take-le many cdf (omega (arith, long)))
    (λ k h. get_or-take many cdf k 0 h ∙ each k h) in
    let lefts : lefts_in cdf ≡ map f (range_with_len 0 many) = sym here ∙ filled in
    let whole : cdf ≡ take many cdf ++ get_or cdf many 0 ∷ [] =
    sym (take_all (many + 1) cdf (omega (arith, long))) ∙ take_more cdf many 0 (omega (arith, long)) in (
      record {
        stored = subst (λ xs. IsStored 32 precision xs) (sym lefts) stored;
        ends = whole ∙ ap (λ xs. xs ++ get_or cdf many 0 ∷ []) here ∙ ap (λ n. lefts_in cdf ++ n ∷ []) last;
      },
      lefts,
    )

-- what two loops leave of a cdf is a cdf
module _ (precision : ℕ) (cdf : List ℕ) (t : IsCdf 32 precision cdf) where
  -- a cdf has at least one row, and at most as many as quantiles
  pub cdf-some : (2 ≤ length cdf) × (length cdf ≤ 2 ^ precision + 1)
  cdf-some =
      let some = stored-some 32 precision (lefts_in cdf) t.stored in
      let long = cdf-long 32 precision cdf t in
      let all = stored-most precision (lefts_in cdf) t.stored 0 some in
      (omega (arith, some, long), omega (arith, all, long))

  -- each symbol before has at least one quantile
  pub cdf-least : (k : ℕ) → k + 1 < length cdf → k ≤ get_or cdf k 0
  cdf-least k h =
      let long = cdf-long 32 precision cdf t in
      omega (arith, cdf-here 32 precision cdf t k h, stored-least precision (lefts_in cdf) t.stored k (omega (arith, h, long)))

  cdf-most : (k : ℕ) → k + 1 < length cdf → get_or cdf k 0 ≤ 2 ^ precision - (length cdf - 1) + k
  cdf-most k h =
      let long = cdf-long 32 precision cdf t in
      let here = cdf-here 32 precision cdf t k h in
      let most = stored-most precision (lefts_in cdf) t.stored k (omega (arith, h, long)) in
      omega (arith, h, long, here, most)

  -- cumulatives that were lowered leave each later symbol a quantile
  pub lowered-most : (rate last : ℕ) (mid : List ℕ)
      → ((k : ℕ) → k < last + 1 → get_or mid k 0 ≡ get_or cdf k 0 - (get_or cdf k 0 - k) / 2 ^ rate)
      → ((k : ℕ) → last + 1 ≤ k → get_or mid k 0 ≡ get_or cdf k 0)
      → (k : ℕ) → k + 1 < length cdf → get_or mid k 0 ≤ 2 ^ precision - (length cdf - 1) + k
  lowered-most rate last mid lowered untouched k h =
      let most = cdf-most k h in
      elim (cases_lt k (last + 1)) [
        | inl low ↦ let is = lowered k low in omega (arith, is, most)
        | inr high ↦ let is = untouched k high in omega (arith, is, most)
      ]

  -- cumulatives that were moved towards a symbol are a cdf
  pub moved-cdf : (rate symbol others last symbols : ℕ) (mid new : List ℕ) → precision ≤ 32 → symbols ≡ length cdf - 1
      → others ≡ 2 ^ precision - symbols → last ≡ min symbol (symbols - 1) → length new ≡ length cdf
      → ((k : ℕ) → k < last + 1 → get_or mid k 0 ≡ get_or cdf k 0 - (get_or cdf k 0 - k) / 2 ^ rate)
      → ((k : ℕ) → last + 1 ≤ k → get_or mid k 0 ≡ get_or cdf k 0)
      → ((k : ℕ) → last + 1 ≤ k → k < symbols → get_or new k 0 ≡ get_or mid k 0 + (others + k - get_or mid k 0) / 2 ^ rate)
      → ((k : ℕ) → k < last + 1 → get_or new k 0 ≡ get_or mid k 0)
      → ((k : ℕ) → symbols ≤ k → get_or new k 0 ≡ get_or mid k 0)
      → IsCdf 32 precision new × (lefts_in new ≡ lefts_after precision rate (lefts_in cdf) symbol)
  moved-cdf rate symbol others last symbols mid new narrow count rest end long lowered untouched raised kept past =
      let lefts : List ℕ = lefts_in cdf in
      let more = cdf-long 32 precision cdf t in
      let many : symbols ≡ length lefts = omega (arith, count, more) in
      let some : 0 < length lefts = stored-some 32 precision lefts t.stored in
      let last_is : last ≡ min symbol (length lefts - 1) = end ∙ ap (λ n. min symbol (n - 1)) many in
      let others_are : others ≡ 2 ^ precision - length lefts = rest ∙ ap (λ n. 2 ^ precision - n) many in
      let above : (k : ℕ) → last + 1 ≤ k → k < length lefts
      → get_or new k 0 ≡ get_or mid k 0 + (2 ^ precision - length lefts + k - get_or mid k 0) / 2 ^ rate =
      (λ k from to. raised k from (omega (arith, to, many))
      ∙ ap (λ o. get_or mid k 0 + (o + k - get_or mid k 0) / 2 ^ rate) others_are) in
      let total : get_or cdf (length lefts) 0 ≡ 2 ^ precision % 2 ^ 32 =
      ap (λ xs. get_or xs (length lefts) 0) t.ends ∙ get_or-append_seam lefts (2 ^ precision % 2 ^ 32) [] 0 in
      let final : get_or new (length lefts) 0 ≡ 2 ^ precision % 2 ^ 32 =
      past (length lefts) (omega (arith, many)) ∙ untouched (length lefts) (omega (arith, last_is, some)) ∙ total in
      cdf-made precision new (λ i. left_after rate (2 ^ precision - length lefts) symbol i (get_or lefts i 0)) (length lefts)
      (omega (arith, long, more))
      (moved-each rate (2 ^ precision - length lefts) symbol last (length lefts) cdf mid new lefts last_is some
      (λ k h. cdf-here 32 precision cdf t k (omega (arith, h, more))) lowered untouched kept above)
      final
      (moved-stored precision rate symbol lefts narrow t.stored)

-- cumulatives of even weights are a cdf
pub even-cdf : (precision symbols weight : ℕ) (lefts cdf : List ℕ) → precision ≤ 32 → 0 < symbols → symbols ≤ 2 ^ precision
    → 2 ^ precision < 2 ^ 32 * symbols → weight ≡ 2 ^ precision / symbols → length lefts ≡ symbols
    → ((k : ℕ) → k < symbols → get_or lefts k 0 ≡ k * weight) → cdf ≡ lefts ++ (2 ^ precision % 2 ^ 32) ∷ []
    → IsCdf 32 precision cdf × (lefts_in cdf ≡ even_lefts precision symbols)
even-cdf precision symbols weight lefts cdf narrow some few word is long each e =
    let known : lefts ≡ even_lefts precision symbols =
    fill_by_all (λ i. i * (2 ^ precision / symbols)) lefts symbols 0 long (λ k h. each k h ∙ ap (λ w. k * w) is) in
    let begin : lefts_in cdf ≡ lefts = all-but_last lefts cdf (2 ^ precision % 2 ^ 32) e in (
      record {
        stored = subst (λ xs. IsStored 32 precision xs) (sym (begin ∙ known)) (even-stored precision symbols narrow some few word);
        ends = e ∙ ap (λ xs. xs ++ (2 ^ precision % 2 ^ 32) ∷ []) (sym begin);
      },
      begin ∙ known,
    )
