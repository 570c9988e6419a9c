use Rattle.std.proofs.Common.{arith}
use Rattle.constriction_backends_tests.proofs.numbers.lower.Goals as goal

pub returns-then-lt-clause-a : goal.returns-then-lt-clause-a
returns-then-lt-clause-a g c = omega arith

pub returns-then-lt-clause-b : goal.returns-then-lt-clause-b
returns-then-lt-clause-b g c =
    let P = g.met.P.BitArray in
    grind (arith, P.lt_law c.args.a c.args.b, c.lt.ensures, c.if-lt.true)

pub returns-else-lt-clause-a : goal.returns-else-lt-clause-a
returns-else-lt-clause-a g c =
    let P = g.met.P.BitArray in
    grind (arith, P.lt_law c.args.a c.args.b, c.lt.ensures, c.if-lt.false)

pub returns-else-lt-clause-b : goal.returns-else-lt-clause-b
returns-else-lt-clause-b g c = omega arith
