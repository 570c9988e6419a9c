use Rattle.constriction_model.proofs.AnswerLemmas.{equal-answers}
use Rattle.constriction_model.proofs.laws.equal_answers.Goals as goal

pub returns : goal.returns
returns g c =
    equal-answers g.M.Probability.WholeNumber.BITS g.N.Probability.WholeNumber.BITS g.row.PRECISION g.M.EntropyModel.rows
    g.N.EntropyModel.rows g.met.M.DecoderModel.tile_law g.met.N.DecoderModel.tile_law
