use Rattle.std.proofs.lemmas.List.Elements.{same_from_all_zip}
use Rattle.std.proofs.lemmas.Result.{IfOk-weaker}
use Rattle.constriction_adaptive.specs.Mixer.{even_rows}
use Rattle.constriction_adaptive.proofs.mixer.even_inputs.Goals as goal

pub returns-clause-items : goal.returns-clause-items
unfolding even_rows
returns-clause-items g c =
    IfOk-weaker c.vec.result _ _ (λ v items. items (λ y same. same_from_all_zip _ _ y same.whole (λ _ _ is. is)))
    c.vec.ensures.items_if_clones_equal
