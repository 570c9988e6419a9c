use Rattle.std.proofs.Common.{[], get_or, ap, ◌∙◌, arith}
use Rattle.std.proofs.lemmas.List.{get_or_read}
use Rattle.constriction_adaptive.specs.Mixing.{mixed, squash}
use Rattle.constriction_adaptive.proofs.mixer.predict.Goals as goal

pub returns : goal.returns
returns g c =
    let weights = c.args.weights.now in
    let row = get_or_read weights c.told.result c.index-weights-told.result (omega (arith, c.told.ensures.below, c.requires.rows))
    c.index-weights-told.is [] ∙ ap (λ k. get_or weights k []) c.told.ensures.told in
    record {
      strengths = rw c.path.ensures.path at c.ask.ensures;
      weight = c.squash.ensures ∙ ap squash (c.mix.ensures.value ∙ ap (λ ws. mixed ws c.ask.new.strengths) row);
    }
