use Rattle.std.proofs.Common.{◌+◌, ◌%◌, ap, arith}
use Rattle.constriction_coders.proofs.States.{shifted, put_below}
use Rattle.constriction_coders.proofs.stack.prepared_entry.PreparedEntry.put_on.Goals as goal

pub overflow_add-result-2 : goal.overflow_add-result-2
overflow_add-result-2 g c =
    let entry = c.args.self.now in
    let whole = shifted g.row.PRECISION entry.left entry.weight c.args.state entry.some c.requires.within c.requires.fits c.requires.room in
    let below = put_below g.row.PRECISION entry.left entry.weight c.args.state entry.some c.requires.within c.requires.fits
    c.requires.room in
    rw (c.divided-quotient.ensures.quotient, c.divided-quotient.ensures.remainder) (omega (arith, whole, below))

pub returns : goal.returns
returns g c =
    let entry = c.args.self.now in
    rw (c.divided-quotient.ensures.quotient, c.divided-quotient.ensures.remainder)
    (ap (λ n. n + (entry.left + c.args.state % entry.weight))
    (shifted g.row.PRECISION entry.left entry.weight c.args.state entry.some c.requires.within c.requires.fits c.requires.room))
