use Rattle.std.proofs.Common.{arith}
use Rattle.std.proofs.Math.Pow.{pow_mono}
use Rattle.constriction_client.proofs.quantiles.quantile_of_item.Goals as goal

pub quantile_within-requires : goal.quantile_within-requires
quantile_within-requires g c = rw c.from_weight.ensures
    (omega (arith, c.in-Some.ensures.within, pow_mono (g.met.E.EntropyModel.precision_law c.args.encoder.now).fits))
