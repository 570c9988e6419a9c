use Rattle.std.proofs.Common.{true, false, refl}
use Rattle.constriction_adaptive.proofs.Rows.{row-zero, row-one}
use Rattle.constriction_adaptive.proofs.bit.BitDecoderModel16.quantile_function.Goals as goal

pub returns-then-quantile-zero-clause-row : goal.returns-then-quantile-zero-clause-row
returns-then-quantile-zero-clause-row c =
    (false, refl, row-zero c.args.self.now.zero _ c.args.quantile c.into_nonzero_unchecked.ensures c.if-quantile-zero.true)

pub returns-clause-row : goal.returns-clause-row
returns-clause-row c = (
  true,
  refl,
  row-one c.args.self.now.zero _ c.args.quantile c.into_nonzero_unchecked-2.ensures c.if-quantile-zero.false c.requires.in_range,
)
