use Rattle.constriction_coders.proofs.PairsComingBack.{range-pairs-back}
use Rattle.constriction_coders.proofs.laws.queue.range_pairs_come_back.Goals as goal

pub returns : goal.returns
returns g c =
    range-pairs-back g.E.EncoderModel.symbol_eq g.E.EntropyModel.rows g.D.DecoderModel.stands_for g.D.EntropyModel.rows _ g.row.PRECISION
    g.met.D.DecoderModel.tile_law g.Source.ReadWords.read_gives g.Source.ReadWords.tells_upcoming
    (λ m. (g.met.E.EntropyModel.precision_law m).positive) g.met.Source.ReadWords.reads_upcoming
