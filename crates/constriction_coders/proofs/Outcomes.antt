-- A success is no error, the error of a backend is none of a frontend, and equal results have equal errors.
use Rattle.std.proofs.Common.{◌≡◌, Ok, Err}
use Rattle.std.specs.Prelude.{Result}
use Rattle.constriction_words.specs.declared.CoderError.{CoderError}
use Rattle.constriction_words.specs.declared.CoderError.TheVariants.{Frontend, Backend}

-- a success is no error
pub no-error : {A E : Type 0} (x : A) (e : E) → Ok x ≡ Err e → ⊥
no-error x e is = cc

-- the error of a backend is none of a frontend
pub no-fault : {A F E : Type 0} (r : Result A (CoderError F E)) (error : E) (fault : F) → r ≡ Err (Backend error)
    → r ≡ Err (Frontend fault) → ⊥
no-fault r error fault of_backend of_frontend = cc

-- equal results have equal errors
pub equal-errors : {A E : Type 0} (e f : E) → ◌≡◌ {A = Result A E} (Err e) (Err f) → e ≡ f
equal-errors e f is = cc
