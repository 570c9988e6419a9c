use Rattle.constriction_coders.proofs.PairsComingBack.{pairs-back}
use Rattle.constriction_coders.proofs.laws.stack.pairs_come_back.Goals as goal

pub returns : goal.returns
returns g c =
    pairs-back g.E.EncoderModel.symbol_eq g.E.EntropyModel.rows g.D.DecoderModel.stands_for g.D.EntropyModel.rows _ g.row.PRECISION
    g.met.D.DecoderModel.tile_law
