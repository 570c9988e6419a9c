-- What comes back for a symbol leads to the same state by contexts, if it does in each predictor and in the context: the impl cites it.
use Rattle.std.specs.Prelude.{◌≡◌, ℕ, Option, Some, None, slice_get}
use Rattle.std.specs.Option.{option_map}
use Rattle.std.proofs.Common.{refl, ap, ◌∙◌}
use Rattle.constriction_adaptive.specs.ByContext.{ByContexts, learned_in, context_state, with_state}

module _ {State Context Symbol : Type 0} (next : State → Symbol → State) (number : Context → ℕ) (after : Context → Symbol → Context)
    (Same : Symbol → Symbol → Type 0)
    (next_same : (s : State) (symbol answer : Symbol) → Same symbol answer → next s answer ≡ next s symbol)
    (after_same : (s : Context) (symbol answer : Symbol) → Same symbol answer → after s answer ≡ after s symbol) where
  state-same : (symbol answer : Symbol) → Same symbol answer → (found : Option State)
      → option_map (λ state. next state answer) found ≡ option_map (λ state. next state symbol) found
  state-same symbol answer e None = refl
  state-same symbol answer e (Some s) = ap Some (next_same s symbol answer e)

  -- a symbol that equals another one is learned as that
  pub learned-same : (s : ByContexts State Context) (symbol answer : Symbol) → Same symbol answer
      → learned_in next number after s answer ≡ learned_in next number after s symbol
  learned-same s symbol answer e =
      ap (λ states. context_state states (after s.context answer))
      (ap (with_state s.predictors (number s.context)) (state-same symbol answer e (slice_get s.predictors (number s.context))))
      ∙ ap (λ context. context_state (learned_in next number after s symbol).predictors context)
      (after_same s.context symbol answer e)
