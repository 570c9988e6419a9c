-- Predictors of bits, which predict together: each learns all bits, and what they say is mixed.
use Rattle.std.specs.Prelude.{ℕ, List, Bool}
use Rattle.constriction_model.specs.Rows.{Row}
use Rattle.constriction_adaptive.specs.Bit.{at_least_one, bit_rows}
use Rattle.constriction_adaptive.specs.Mixing.{error_of, mixed, squash, weights_after}

pub record Mixture (State : Type 0) : Type 0 where
  -- what the predictors know
  pub predictors : State
  -- how much each of them counts
  pub weights : List ℕ

-- the same, from both
abbrev pub mixture_of : {State : Type 0} → State → List ℕ → Mixture State
mixture_of predictors weights = record { predictors = predictors; weights = weights }

module _ {State : Type 0} (strengths : State → List ℕ) where
  -- the weight of 0 for the next bit
  abbrev pub joint_weight : Mixture State → ℕ
  joint_weight m = squash (mixed m.weights (strengths m.predictors))

  -- the rows of the next bit
  abbrev pub joint_rows : Mixture State → List (Row Bool)
  joint_rows m = bit_rows (at_least_one (joint_weight m))

  -- all learn a bit, and those that spoke for it count more
  abbrev pub mixture_after : (State → Bool → State) → Mixture State → Bool → Mixture State
  mixture_after next m bit =
      mixture_of (next m.predictors bit) (weights_after bit (error_of bit (joint_weight m)) (strengths m.predictors) m.weights)
