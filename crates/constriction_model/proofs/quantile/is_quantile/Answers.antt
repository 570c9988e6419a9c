use Rattle.std.proofs.Common.{arith}
use Rattle.constriction_model.proofs.quantile.is_quantile.Goals as goal

pub returns : goal.returns
returns g c = (
  (λ h. let most = c.is_at_most.ensures.0 h in omega (arith, c.greatest_of_bits.ensures.value)),
  (λ h. c.is_at_most.ensures.1 (omega (arith, c.greatest_of_bits.ensures.value))),
)
