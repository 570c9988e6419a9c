use Rattle.std.proofs.Common.{◌+◌, ◌%◌, ap, arith}
use Rattle.constriction_coders.proofs.States.{shifted, put_below}
use Rattle.constriction_coders.proofs.stack.state.with_entry.Goals as goal

pub overflow_add-result-2 : goal.overflow_add-result-2
overflow_add-result-2 g c =
    let whole = shifted _ _ _ _ c.requires.some c.requires.within c.requires.fits c.requires.room in
    omega (arith, whole, put_below _ _ _ _ c.requires.some c.requires.within c.requires.fits c.requires.room)

pub returns : goal.returns
returns g c = ap (λ n. n + (c.args.left + c.args.state % c.args.weight))
    (shifted _ _ _ _ c.requires.some c.requires.within c.requires.fits c.requires.room)
