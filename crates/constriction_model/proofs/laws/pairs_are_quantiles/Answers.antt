use Rattle.constriction_model.specs.lemmas.Pairs.{pairs-are-quantiles}
use Rattle.constriction_model.proofs.laws.pairs_are_quantiles.Goals as goal

pub returns : goal.returns
returns g c =
    pairs-are-quantiles g.E.EncoderModel.symbol_eq g.D.Probability.WholeNumber.BITS g.row.PRECISION g.D.EntropyModel.rows
    g.E.EntropyModel.rows g.met.D.DecoderModel.tile_law g.met.E.EncoderModel.equality_law
