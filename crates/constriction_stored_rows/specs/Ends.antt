-- How a list of weights ends, and the cdf that it fills. Only public clauses of this crate cite this module.
use Rattle.std.specs.Prelude.{◌≡◌, ℕ, ◌+◌, ◌^◌, ◌<◌, ◌⊎◌, Bool, true, false, List, map, Option}
use Rattle.constriction_model.specs.Acceptance.{completed, IsAccepted}
use Rattle.constriction_stored_rows.specs.private.Given.{GaveGood, GaveBad}
use Rattle.constriction_stored_rows.specs.Stored.{lefts_from, with_total}

-- a given weight ends a list: it takes all quantiles that are left, one more than `room`, and none is inferred
pub record FillsAll (bits weight room : ℕ) (infer : Bool) : Type 0 where
  pub given : infer ≡ false
  pub positive : 0 < weight
  pub fits : weight < 2 ^ bits
  pub is : weight ≡ room + 1

-- a given weight does not end a list: it is 0 or too much, or it leaves no quantiles for the inferred weight
abbrev pub IsNoLast : ℕ → ℕ → Bool → Type 0
IsNoLast weight room infer = (weight ≡ 0) ⊎ (room + 1 < weight) ⊎ ((infer ≡ true) × (room < weight))

-- no weight can be inferred: that is not asked for, or it would be no word
abbrev pub IsNoneInferred : ℕ → ℕ → Bool → Type 0
IsNoneInferred bits room infer = (infer ≡ false) ⊎ ((infer ≡ true) × (room + 1 ≡ 2 ^ bits))

module _ {S W : Type 0} (steps : S → Option W → S → Type 0) (it : S) (whole : W → ℕ) (bits precision : ℕ) where
  -- the iterator gave accepted weights, and this is their cdf
  abbrev pub IsCdfOf : Bool → List W → Type 0
  IsCdfOf infer cdf = GaveGood steps it (λ ws. IsAccepted bits precision (completed precision infer (map whole ws))
      × (map whole cdf ≡ with_total bits precision (lefts_from 0 (completed precision infer (map whole ws)))))

  -- the iterator gave weights that are not accepted, whatever would follow
  abbrev pub IsNoCdf : Bool → Type 0
  IsNoCdf infer = GaveBad steps it (λ ws. IsAccepted bits precision (completed precision infer (map whole ws)))
