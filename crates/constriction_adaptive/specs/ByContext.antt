-- A predictor for each context: the one of the context of the next symbol predicts it, and learns it alone.
use Rattle.std.specs.Prelude.{ℕ, List, [], Option, Some, None, slice_get, slice_set}
use Rattle.std.specs.Option.{option_map}
use Rattle.constriction_model.specs.Rows.{Row}

-- what the predictor of each context knows, and what is known of the context
pub record ByContexts (State Context : Type 0) : Type 0 where
  pub predictors : List State
  pub context : Context

-- the same, from both
abbrev pub context_state : {State Context : Type 0} → List State → Context → ByContexts State Context
context_state predictors context = record { predictors = predictors; context = context }

-- the rows of a state, if there is one
abbrev pub rows_if_any : {State Symbol : Type 0} → (State → List (Row Symbol)) → Option State → List (Row Symbol)
rows_if_any rows None = []
rows_if_any rows (Some state) = rows state

-- the states with another one at a number, if there is one
abbrev pub with_state : {State : Type 0} → List State → ℕ → Option State → List State
with_state states number None = states
with_state states number (Some state) = slice_set states number state

module _ {State Context Symbol : Type 0} where
  -- the rows of the predictor of the context
  abbrev pub rows_by_context : (State → List (Row Symbol)) → (Context → ℕ) → ByContexts State Context → List (Row Symbol)
  rows_by_context rows number s = rows_if_any rows (slice_get s.predictors (number s.context))

  -- the predictor of the context learns a symbol, and then the context
  abbrev pub learned_in : (State → Symbol → State) → (Context → ℕ) → (Context → Symbol → Context) → ByContexts State Context → Symbol
      → ByContexts State Context
  learned_in next number after s symbol = context_state
      (with_state s.predictors (number s.context) (option_map (λ state. next state symbol) (slice_get s.predictors (number s.context))))
      (after s.context symbol)
