-- A cdf after other weights were written over it, or refused, and the rows of a cdf of known weights.
use Rattle.std.specs.Prelude.{◌≡◌, ℕ, ◌∷◌, ◌++◌, [], List, map, Result, Ok, Err, OnOk, OnErr}
use Rattle.std.proofs.Common.{ap}
use Rattle.constriction_model.specs.Acceptance.{IsAccepted}
use Rattle.constriction_model.specs.Rows.{contiguous_rows}
use Rattle.constriction_stored_rows.specs.Stored.{IsCdf, lefts_from, lefts_in, total_of, weights_of}
use Rattle.constriction_stored_rows.proofs.CdfLemmas.{cdf-of}
use Rattle.constriction_categorical.specs.Cdf.{IsCdfOfWeights}

module _ {T E W : Type 0} (whole : W → ℕ) (bits precision : ℕ) (old new : List W) (weights : List ℕ) where
  -- cumulatives that were written anew, or not, are a cdf
  pub refilled-cdf : (r : Result T E) → IsCdf bits precision (map whole old) → OnOk r (IsAccepted bits precision weights)
      → OnOk r (map whole new ≡ lefts_from 0 weights ++ total_of bits precision ∷ []) → OnErr r (new ≡ old)
      → IsCdf bits precision (map whole new)
  refilled-cdf (Ok _) before accepted is same = (cdf-of bits precision (map whole new) weights accepted is).0
  refilled-cdf (Err _) before accepted is same = let e : new ≡ old = same in rw e before

  -- if they were written anew, their rows are those of the weights
  pub refilled-rows : (r : Result T E) → OnOk r (IsAccepted bits precision weights)
      → OnOk r (map whole new ≡ lefts_from 0 weights ++ total_of bits precision ∷ [])
      → OnOk r (contiguous_rows (weights_of precision (lefts_in (map whole new))) ≡ contiguous_rows weights)
  refilled-rows (Ok _) accepted is = ap contiguous_rows (cdf-of bits precision (map whole new) weights accepted is).1
  refilled-rows (Err _) accepted is = tt

module _ (bits precision : ℕ) (cdf weights : List ℕ) (t : IsCdfOfWeights bits precision weights cdf) where
  -- the words of a cdf of known weights are a cdf
  pub given-cdf : IsCdf bits precision cdf
  given-cdf = (cdf-of bits precision cdf weights t.accepted t.words).0

  -- its rows are those of the weights
  pub given-rows : contiguous_rows (weights_of precision (lefts_in cdf)) ≡ contiguous_rows weights
  given-rows = ap contiguous_rows (cdf-of bits precision cdf weights t.accepted t.words).1
