-- Models that are made of other models.
use Rattle.std.specs.Prelude.{◌≡◌, Bool, List, Result, Err, IfOk, IfErr}
use Rattle.constriction_model.specs.Model.{ClonesRepeat, StandApart}
use Rattle.constriction_model.specs.Rows.{Row}
use Rattle.constriction_model.specs.declared.error.ModelError.{ModelError}
use Rattle.constriction_model.specs.declared.error.ModelError.TheVariants.{InvalidTable, OutOfMemory}

-- If there is a model, it is what `Tells` says. The only error is OutOfMemory.
pub record IsMadeIfMemorySuffices {Model : Type 0} (Tells : Model → Type 0) (result : Result Model ModelError) : Type 0 where
  pub ok : IfOk result Tells
  pub refused : IfErr result (λ e. e ≡ OutOfMemory)

-- If there is a model, its rows stand for these rows, and no two of its symbols are equal. The result is InvalidTable only if two symbols
-- that a walk through these rows may give are equal.
pub record IsMadeIfApart {Symbol Model : Type 0} (eq : Symbol → Symbol → Bool) (Stands : Symbol → Symbol → Type 0)
    (model_rows : Model → List (Row Symbol)) (rows : List (Row Symbol)) (result : Result Model ModelError) : Type 0 where
  pub ok : IfOk result (λ m. StandApart eq Stands (model_rows m) rows)
  pub invalid : result ≡ Err InvalidTable → ClonesRepeat eq Stands rows
