use Rattle.std.proofs.Common.{arith}
use Rattle.constriction_coders.proofs.Reciprocals.{estimate_fits, estimate_exact, estimate_short}
use Rattle.constriction_coders.proofs.stack.prepared_entry.PreparedEntry.divided.Goals as goal

pub overflow_sub-rest : goal.overflow_sub-rest
overflow_sub-rest c =
    let own = c.args.self.now in
    estimate_fits c.args.state own.weight own.reciprocal (omega (arith, c.ranges.state.fits)) own.at_most own.no_less

pub returns-then-rest-weight-clause-quotient : goal.returns-then-rest-weight-clause-quotient
returns-then-rest-weight-clause-quotient c =
    let own = c.args.self.now in
    (estimate_exact c.args.state own.weight own.reciprocal (omega (arith, c.ranges.state.fits)) own.at_most own.no_less
    c.if-rest-weight.true).0

pub returns-then-rest-weight-clause-remainder : goal.returns-then-rest-weight-clause-remainder
returns-then-rest-weight-clause-remainder c =
    let own = c.args.self.now in
    (estimate_exact c.args.state own.weight own.reciprocal (omega (arith, c.ranges.state.fits)) own.at_most own.no_less
    c.if-rest-weight.true).1

pub returns-clause-quotient : goal.returns-clause-quotient
returns-clause-quotient c =
    let own = c.args.self.now in
    (estimate_short c.args.state own.weight own.reciprocal (omega (arith, c.ranges.state.fits)) own.at_most own.no_less
    c.if-rest-weight.false).0

pub returns-clause-remainder : goal.returns-clause-remainder
returns-clause-remainder c =
    let own = c.args.self.now in
    (estimate_short c.args.state own.weight own.reciprocal (omega (arith, c.ranges.state.fits)) own.at_most own.no_less
    c.if-rest-weight.false).1
