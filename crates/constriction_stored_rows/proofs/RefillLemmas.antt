-- A cdf that is written over with the rows of a slice of weights.
use Rattle.std.specs.Prelude.{◌≡◌, ℕ, ◌+◌, ◌-◌, ◌^◌, ◌<◌, Bool, true, false, List, [], ◌∷◌, ◌++◌, length, map, sum, take, Result, Ok, Err, OnOk, OnErr}
use Rattle.std.specs.Result.{is_err}
use Rattle.std.proofs.Common.{refl, ap, sym, ◌∙◌, subst, arith, get_or, inl, inr, Iter}
use Rattle.std.proofs.iter.Yields.{Copied-Drains, Copied-slice, copies, fronts, gives_left}
use Rattle.std.specs.Iterator.Adapters.{copied_source}
use Rattle.std.specs.Slice.Iter.{iter_rest}
use Rattle.std.specs.declared.iter.Copied.{Copied}
use Rattle.std.proofs.lemmas.Bool.{false≢true}
use Rattle.std.proofs.lemmas.List.{length-append, length-map, map-append, map-id, take_more}
use Rattle.std.proofs.lemmas.List.Elements.{All-contains, Contains-push}
use Rattle.std.proofs.lemmas.List.Sums.{sum_by_push}
use Rattle.std.proofs.lemmas.Nat.{pow_pos}
use Rattle.constriction_model.specs.Acceptance.{completed, IsAccepted}
use Rattle.constriction_stored_rows.specs.Stored.{lefts_from}
use Rattle.constriction_stored_rows.specs.private.Given.{GaveGood, GaveBad}
use Rattle.constriction_stored_rows.proofs.FillLemmas.{lefts_from-push}

-- the only item of a list that had none
pub one_pushed : {A : Type 0} (none all : List A) (x : A) → none ≡ [] → all ≡ none ++ x ∷ [] → all ≡ x ∷ []
one_pushed none all x is pushed = pushed ∙ ap (λ xs. xs ++ x ∷ []) is

-- a reader read the copied words of a slice
module _ {A : Type 0} (it : Copied (Iter A)) (all : List A) (e : iter_rest (copied_source it) ≡ all) (Good : List A → Type 0) where
  -- if all that it read is good, the slice is
  pub slice-good : GaveGood (copies fronts) it Good → Good all
  slice-good g = subst Good (Copied-Drains it g.0 g.1 ∙ e) g.2

  -- if no list that begins with what it read is good, the slice is not
  pub slice-bad : GaveBad (copies fronts) it Good → ¬ (Good all)
  slice-bad bad good = elim bad [
    | inl whole ↦ whole.2 (subst Good (sym (Copied-Drains it whole.0 whole.1 ∙ e)) good)
    | inr begun ↦
        let left = gives_left (copies fronts) (λ x. x) begun.0 (iter_rest (copied_source it)) it begun.1 (Copied-slice it) begun.2 in
        begun.3 left.0 (subst Good (sym e ∙ left.1 ∙ ap (λ zs. zs ++ left.0) (map-id begun.0)) good)
  ]

-- there is one weight more than before the last one
pub one-more : {W : Type 0} (whole : W → ℕ) (all : List ℕ) (before : List W) (last : ℕ) → all ≡ map whole before ++ last ∷ []
    → length all ≡ length before + 1
one-more whole all before last e =
    ap length e ∙ length-append (map whole before) (last ∷ []) ∙ ap (λ n. n + 1) (length-map before whole)

-- what holds if a request failed, and if it did not
pub failed : {T E : Type 0} (r : Result T E) (b : Bool) (P : Type 0) → b ≡ is_err r → b ≡ true → OnErr r P → P
failed (Ok x) b P e is p = absurd (false≢true (sym e ∙ is))
failed (Err x) b P e is p = p

pub succeeded : {T E : Type 0} (r : Result T E) (b : Bool) (P : Type 0) → b ≡ is_err r → b ≡ false → OnOk r P → P
succeeded (Ok x) b P e is p = p
succeeded (Err x) b P e is p = absurd (false≢true (sym is ∙ e))

module _ (bits precision : ℕ) where
  -- the weights before the last one of accepted weights leave quantiles
  pub before-left : (all before : List ℕ) (last : ℕ) → IsAccepted bits precision all → all ≡ before ++ last ∷ []
      → sum before < 2 ^ precision
  before-left all before last a e =
      let b : IsAccepted bits precision (before ++ last ∷ []) = subst (IsAccepted bits precision) e a in
      omega (
        arith,
        b.tiles.total,
        sum_by_push (λ x. x) before last,
        All-contains (λ w. 0 < w) _ last b.tiles.positive (Contains-push before last),
      )

  -- an inferred weight is what the given ones leave
  pub before-inferred : (ws : List ℕ) (infer : Bool) → infer ≡ true → completed precision infer ws ≡ ws ++ (2 ^ precision - sum ws) ∷ []
  before-inferred ws infer e = rw e refl

  -- if none is inferred, the last weight is the last word given
  pub before-given : {W : Type 0} (whole : W → ℕ) (ws before : List W) (last : W) (infer : Bool) → infer ≡ false → ws ≡ before ++ last ∷ []
      → completed precision infer (map whole ws) ≡ map whole before ++ whole last ∷ []
  before-given whole ws before last infer e split = rw (e, split) (map-append whole before (last ∷ []))

  -- no weights at all are not accepted, unless one is inferred
  pub before-none : (ws : List ℕ) (infer : Bool) → infer ≡ false → length ws ≡ 0
      → ¬ (IsAccepted bits precision (completed precision infer ws))
  before-none [] infer e long = rw e (λ a. omega (arith, a.tiles.total, pow_pos precision))
  before-none (w ∷ ws) infer e long = absurd (omega arith)

-- the left cumulatives of rows and of the next one, and one more
pub one_more_left : {W : Type 0} (whole : W → ℕ) (cdf more : List W) (ws : List ℕ) (i : ℕ) (left : W) → more ≡ cdf ++ left ∷ []
    → map whole cdf ≡ lefts_from 0 (take i ws) ++ sum (take i ws) ∷ [] → i < length ws → whole left ≡ sum (take (i + 1) ws)
    → map whole more ≡ lefts_from 0 (take (i + 1) ws) ++ sum (take (i + 1) ws) ∷ []
one_more_left whole cdf more ws i left pushed before here is =
    let e : 0 + sum (take i ws) ≡ sum (take i ws) = omega arith in
    ap (map whole) pushed ∙ map-append whole cdf (left ∷ []) ∙ ap (λ n. map whole cdf ++ n ∷ []) is
    ∙ ap (λ xs. xs ++ sum (take (i + 1) ws) ∷ []) (before ∙ ap (λ n. lefts_from 0 (take i ws) ++ n ∷ []) (sym e)
    ∙ sym (lefts_from-push 0 (take i ws) (get_or ws i 0)) ∙ ap (lefts_from 0) (sym (take_more ws i 0 here)))
