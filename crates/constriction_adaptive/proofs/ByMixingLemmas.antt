-- What a mixture of predictors learned.
use Rattle.std.proofs.Common.{◌≡◌, ◌∙◌, ℕ, List, Bool, ap}
use Rattle.constriction_adaptive.specs.ByMixing.{joint_weight, mixture_after, mixture_of}
use Rattle.constriction_adaptive.specs.Mixing.{error_of, mixed, squash, weights_after}

-- the predictors learned a bit, and the weights were adjusted by what they had said
pub mixture_learned : {State : Type 0} (strengths : State → List ℕ) (next : State → Bool → State) (before after : State)
    (weights adjusted said : List ℕ) (weight : ℕ) (bit : Bool) → said ≡ strengths before → weight ≡ squash (mixed weights said)
    → after ≡ next before bit → adjusted ≡ weights_after bit (error_of bit weight) said weights
    → mixture_of after adjusted ≡ mixture_after strengths next (mixture_of before weights) bit
mixture_learned strengths next before after weights adjusted said weight bit are is learned moved =
    ap (λ state. mixture_of state adjusted) learned
    ∙ ap (mixture_of (next before bit))
    (moved ∙ ap (λ w. weights_after bit (error_of bit w) said weights) (is ∙ ap (λ ss. squash (mixed weights ss)) are)
    ∙ ap (λ ss. weights_after bit (error_of bit (joint_weight strengths (mixture_of before weights))) ss weights) are)
