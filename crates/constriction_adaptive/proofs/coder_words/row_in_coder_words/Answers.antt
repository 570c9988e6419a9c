use Rattle.std.proofs.Common.{arith}
use Rattle.std.proofs.Math.Pow.{pow_mono}
use Rattle.constriction_adaptive.proofs.coder_words.row_in_coder_words.Goals as goal

pub from_coder_word-requires : goal.from_coder_word-requires
from_coder_word-requires g c =
    let fits = (g.met.D.EntropyModel.precision_law c.args.model.now).fits in
    omega (arith, c.requires, pow_mono {i = g.row.PRECISION} {j = g.D.Probability.WholeNumber.BITS} fits)

pub returns-in-Err-clause-refused : goal.returns-in-Err-clause-refused
returns-in-Err-clause-refused g c = rw c.from_coder_word.ensures at c.in-Err.ensures.refused
