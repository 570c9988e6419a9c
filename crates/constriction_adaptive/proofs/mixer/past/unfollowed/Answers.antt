use Rattle.std.proofs.lemmas.Result.{IfOk-weaker}
use Rattle.constriction_adaptive.specs.Past.{no_followers}
use Rattle.constriction_adaptive.proofs.mixer.past.unfollowed.Goals as goal

pub returns-clause-items : goal.returns-clause-items
unfolding no_followers
returns-clause-items c = IfOk-weaker c.vec.result _ _ (λ v items. items (λ y same. same)) c.vec.ensures.items_if_clones_equal
