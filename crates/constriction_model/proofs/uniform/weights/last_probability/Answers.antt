use Rattle.std.proofs.Common.{arith}
use Rattle.constriction_model.specs.lemmas.UniformRows.{rest-positive}
use Rattle.constriction_model.proofs.UniformLemmas.{bin-fits, rest-wrapped}
use Rattle.constriction_model.proofs.uniform.weights.last_probability.Goals as goal

pub times-requires : goal.times-requires
times-requires g c =
    let fit = bin-fits _ g.row.PRECISION _ c.requires.precision.fits c.requires.some c.requires.within in
    rw c.requires.bin fit.1

pub returns-clause-value : goal.returns-clause-value
returns-clause-value g c =
    rest-wrapped _ g.row.PRECISION _ _ _ _ _ c.requires.precision.fits c.requires.some c.requires.within c.requires.bin c.times.ensures
    c.wrapping_pow2.ensures c.wrapping_minus.ensures.range c.wrapping_minus.ensures.difference

pub returns-clause-positive : goal.returns-clause-positive
returns-clause-positive g c =
    let value = returns-clause-value g c in
    omega (arith, rest-positive g.row.PRECISION _ c.requires.within)
