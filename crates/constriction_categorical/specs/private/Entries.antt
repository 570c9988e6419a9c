-- Entries of a decoder over any symbols, made of symbols and weights.
use Rattle.std.specs.Prelude.{◌≡◌, ℕ, Bool, List, map, Result, IfOk}
use Rattle.std.specs.List.{IsDistinct}
use Rattle.std.specs.declared.vec.Vec.{Vec}
use Rattle.constriction_model.specs.Acceptance.{completed, IsMadeOfBoth, Reading}
use Rattle.constriction_model.specs.Rows.{rows_of}
use Rattle.constriction_model.specs.declared.error.ModelError.{ModelError}
use Rattle.constriction_stored_rows.specs.Stored.{IsStored, rows_paired}

-- If there are entries, the symbols and weights are accepted, and a model of the entries has their rows. The result is InvalidTable only if
-- nothing that follows what was read can be accepted.
pub record MakesEntries {Symbol Word Z : Type 0} (eq : Symbol → Symbol → Bool) (Accepted : List Symbol → List ℕ → Type 0) (whole : Word → ℕ)
    (bits precision : ℕ) (infer : Bool) (ReadSymbols : Reading → List Symbol → Type 0) (Read : Reading → List Word → Type 0)
    (result : Result (Vec (Word × Symbol) Z) ModelError) : Type 0 where
  pub made : IsMadeOfBoth Accepted (completed precision infer) ReadSymbols Read whole
      (λ v ss ws. rows_paired whole precision v.items ≡ rows_of ss ws) result
  pub stored : IfOk result (λ v. IsStored bits precision (map (λ x. whole x.0) v.items))
  pub distinct : IfOk result (λ v. IsDistinct eq (map (λ x. x.1) v.items))
