-- Iterators over decoded symbols.
use Rattle.std.specs.Prelude.{◌≡◌, ℕ, ◌+◌, Option, Some, None}

-- A step of this iterator, which has `left` answers yet to give and `rest` after it: an answer of the coder, which may be an error; or
-- nothing, if no answer is left, and then nothing changes.
abbrev pub StepsOn : {Coder Answer : Type 0} → (Answers : Coder → Answer → Coder → Type 0) → (left : ℕ) → Coder → Option Answer → (rest : ℕ)
    → Coder → Type 0
StepsOn Answers left old None rest new = (left ≡ 0) × (rest ≡ 0) × (new ≡ old)
StepsOn Answers left old (Some answer) rest new = (left ≡ rest + 1) × Answers old answer new

-- A step of an iterator that takes a model for each answer: an answer of the coder by the next model, which may be an error; or nothing, if
-- no model comes, and then the coder stays as it is.
abbrev pub StepsByModel : {Coder Models Model Answer : Type 0} → (takes : Models → Option Model → Models → Type 0)
    → (Answers : Model → Coder → Answer → Coder → Type 0) → Models → Coder → Option Answer → Models → Coder → Type 0
StepsByModel takes Answers models old None rest new = takes models None rest × (new ≡ old)
StepsByModel {Model = Model} takes Answers models old (Some answer) rest new =
    (model : Model) × takes models (Some model) rest × Answers model old answer new
