use Rattle.constriction_adaptive.proofs.Rows.{entry-zero, entry-one}
use Rattle.constriction_adaptive.proofs.bit.BitEncoderModel16.left_cumulative_and_probability.Goals as goal

pub returns-then-symbol-clause-entry : goal.returns-then-symbol-clause-entry
returns-then-symbol-clause-entry c =
    entry-one c.args.self.now.zero _ c.args.symbol.now c.into_nonzero_unchecked.ensures c.if-symbol.true

pub returns-clause-entry : goal.returns-clause-entry
returns-clause-entry c =
    entry-zero c.args.self.now.zero _ c.args.symbol.now c.into_nonzero_unchecked-2.ensures c.if-symbol.false
