use Rattle.std.proofs.lemmas.Result.{IfOk-weaker}
use Rattle.constriction_adaptive.specs.Contexts.{even_weights}
use Rattle.constriction_adaptive.proofs.contexts.even.Goals as goal

pub returns-clause-items : goal.returns-clause-items
unfolding even_weights
returns-clause-items c = IfOk-weaker c.vec.result _ _ (λ v items. items (λ y same. same)) c.vec.ensures.items_if_clones_equal
