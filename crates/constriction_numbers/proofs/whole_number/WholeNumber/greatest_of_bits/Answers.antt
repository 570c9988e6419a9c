use Rattle.std.proofs.Common.{arith}
use Rattle.std.proofs.Math.Pow.{pow_mono}
use Rattle.constriction_numbers.proofs.Powers.{shift-greatest}
use Rattle.constriction_numbers.proofs.whole_number.WholeNumber.greatest_of_bits.Goals as goal

pub returns-clause-value : goal.returns-clause-value
returns-clause-value g c =
    shift-greatest g.Self.WholeNumber.BITS c.args.bits (g.Self.WholeNumber.whole c.greatest_word.result) _ c.requires.fits
    (omega (arith, c.greatest_word.ensures)) (rw c.BITS.ensures at c.shifted_right.ensures)

pub returns-clause-within : goal.returns-clause-within
returns-clause-within g c = pow_mono c.requires.fits
