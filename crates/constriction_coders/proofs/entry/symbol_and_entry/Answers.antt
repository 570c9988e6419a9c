use Rattle.std.proofs.Common.{ap, ◌∙◌, arith}
use Rattle.std.proofs.Math.Pow.{pow_mono}
use Rattle.constriction_coders.proofs.entry.symbol_and_entry.Goals as goal

pub from_coder_word-requires : goal.from_coder_word-requires
from_coder_word-requires g c =
    let fits = (g.met.D.EntropyModel.precision_law c.args.model.now).fits in
    omega (arith, c.requires, pow_mono {i = g.row.PRECISION} {j = g.D.Probability.WholeNumber.BITS} fits)

pub returns-in-Ok-clause-row : goal.returns-in-Ok-clause-row
returns-in-Ok-clause-row g c =
    let row = c.in-Ok.ensures.row in
    let weight_is = c.to_coder_word-in-Ok.ensures ∙ ap g.D.Probability.WholeNumber.whole c.from_weight.ensures in
    (row.0, row.1, rw (c.to_coder_word.ensures, weight_is) (rw c.from_coder_word.ensures at row.2))

pub returns-in-Err-clause-refused : goal.returns-in-Err-clause-refused
returns-in-Err-clause-refused g c = rw c.from_coder_word.ensures at c.in-Err.ensures.refused
