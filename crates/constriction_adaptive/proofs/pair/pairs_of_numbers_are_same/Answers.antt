use Rattle.constriction_adaptive.specs.lemmas.Pair.{symbols-same}
use Rattle.constriction_adaptive.proofs.pair.pairs_of_numbers_are_same.Goals as goal

pub returns : goal.returns
returns g c =
    symbols-same g.L.DecoderModel.stands_for g.L.EncoderModel.symbol_eq g.R.DecoderModel.stands_for g.R.EncoderModel.symbol_eq
    g.met.L.NumberModel.same_law g.met.R.NumberModel.same_law
