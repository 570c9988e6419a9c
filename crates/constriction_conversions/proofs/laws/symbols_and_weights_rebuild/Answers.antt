use Rattle.constriction_model.specs.lemmas.Stand.{tiling-rebuilds}
use Rattle.constriction_conversions.proofs.laws.symbols_and_weights_rebuild.Goals as goal

pub returns : goal.returns
returns g c = λ m distinct.
    tiling-rebuilds g.M.Symbol.PartialEq.eq g.M.Probability.WholeNumber.BITS g.row.PRECISION (g.M.EntropyModel.rows m)
    (g.met.M.IterableEntropyModel.tile_law m) distinct
