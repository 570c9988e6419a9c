use Rattle.std.proofs.Common.{◌∙◌, length, ap, sym}
use Rattle.std.proofs.lemmas.List.{length-map}
use Rattle.constriction_categorical.proofs.lookup.LookupDecoderModel.support_size.Goals as goal

pub returns : goal.returns
returns g c =
    sym (length-map c.entries.result.now g.Model.Kind.CdfEntry.cumulative) ∙ ap length c.entries.ensures
    ∙ length-map (g.Model.EntropyModel.rows c.args.self.now.model) (λ r. r.left)
