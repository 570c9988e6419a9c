-- Cdfs that callers give to contiguous models.
use Rattle.std.specs.Prelude.{◌≡◌, ℕ, List}
use Rattle.constriction_model.specs.Acceptance.{IsAccepted}
use Rattle.constriction_stored_rows.specs.Stored.{lefts_from, with_total}

-- the cdf of accepted weights over words of `bits` bits: their left cumulatives, and after them the total, or 0 if the total is no word
pub record IsCdfOfWeights (bits precision : ℕ) (weights cdf : List ℕ) : Type 0 where
  pub accepted : IsAccepted bits precision weights
  pub words : cdf ≡ with_total bits precision (lefts_from 0 weights)
