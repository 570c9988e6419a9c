use Rattle.std.proofs.Common.{◌^◌, ◌≤◌, arith}
use Rattle.std.proofs.lemmas.Nat.{one_shl}
use Rattle.std.proofs.Math.Nat.{pow-le-pow_right}
use Rattle.constriction_adaptive.proofs.CategoricalLemmas.{cdf-some, cdf-least, lowered-most, moved-cdf}
use Rattle.constriction_adaptive.proofs.categorical.move_towards.Goals as goal

pub overflow_sub-others : goal.overflow_sub-others
overflow_sub-others g c =
    omega (arith, one_shl g.row.PRECISION 64 (omega arith), (cdf-some g.row.PRECISION c.args.cdf.now c.requires.cdf).1)

pub lower-requires-clause-least : goal.lower-requires-clause-least
lower-requires-clause-least g c = λ k h.
    cdf-least g.row.PRECISION c.args.cdf.now c.requires.cdf k
    (omega (arith, h, (cdf-some g.row.PRECISION c.args.cdf.now c.requires.cdf).0))

pub raise-requires-clause-words : goal.raise-requires-clause-words
raise-requires-clause-words g c =
    let wide : 2 ^ g.row.PRECISION ≤ 2 ^ 32 = pow-le-pow_right {n = 2} (omega arith) c.requires.precision.fits in
    omega (arith, wide, one_shl g.row.PRECISION 64 (omega arith), (cdf-some g.row.PRECISION c.args.cdf.now c.requires.cdf).1)

pub raise-requires-clause-most : goal.raise-requires-clause-most
raise-requires-clause-most g c = λ k h.
    let most = lowered-most g.row.PRECISION c.args.cdf.now c.requires.cdf g.row.RATE _ _ c.lower.ensures.moved c.lower.ensures.same k
    (omega (arith, h)) in
    omega (arith, most, one_shl g.row.PRECISION 64 (omega arith))

pub returns : goal.returns
returns g c =
    let moved = moved-cdf g.row.PRECISION c.args.cdf.now c.requires.cdf g.row.RATE c.args.symbol _ _ _ _ _ c.requires.precision.fits
    (omega arith) (omega (arith, one_shl g.row.PRECISION 64 (omega arith))) (omega arith) (omega arith)
    c.lower.ensures.moved c.lower.ensures.same c.raise.ensures.moved c.raise.ensures.before c.raise.ensures.after in
    record { cdf = moved.0; lefts = moved.1 }
