use Rattle.std.proofs.Common.{refl, ◌∙◌}
use Rattle.constriction_client.proofs.Replying.{scan-of-rows}
use Rattle.constriction_theorem.proofs.weights.asked_beside_both.Goals as goal

pub returns-clause-contiguous : goal.returns-clause-contiguous
returns-clause-contiguous g c =
    c.in_ok-beside_contiguous.ensures.ok.exact c.requires.same
    ∙ scan-of-rows g.row.PRECISION g.D.Probability.WholeNumber.whole g.E.EncoderModel.symbol_eq _ _ _ c.args.queries.now refl
    c.requires.contiguous

pub returns-clause-hashed : goal.returns-clause-hashed
returns-clause-hashed g c =
    c.in_ok-beside_hashed.ensures.ok.exact c.requires.same
    ∙ scan-of-rows g.row.PRECISION g.D.Probability.WholeNumber.whole g.F.EncoderModel.symbol_eq _ _ _ c.args.queries.now refl
    c.requires.hashed
