use Rattle.constriction_model.specs.lemmas.Pairs.{one-row-each}
use Rattle.constriction_model.proofs.laws.quantiles_have_one_row.Goals as goal

pub returns : goal.returns
returns g c =
    one-row-each g.M.Probability.WholeNumber.BITS g.row.PRECISION g.M.EntropyModel.rows g.met.M.DecoderModel.tile_law
