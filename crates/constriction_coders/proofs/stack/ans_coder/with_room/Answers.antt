use Rattle.std.proofs.Common.{◌-◌, ◌*◌, ◌^◌, ◌≤◌, arith, inr, rules}
use Rattle.constriction_coders.proofs.States.{room_after, least_after}
use Rattle.constriction_coders.proofs.Steps.{refills-back}
use Rattle.constriction_coders.proofs.stack.ans_coder.with_room.Goals as goal

pub returns-in-Ok-clause-room : goal.returns-in-Ok-clause-room
returns-in-Ok-clause-room g c =
    room_after c.args.precision c.args.weight c.args.state c.requires.precision.fits c.requires.some (omega (arith, c.ranges.state.fits))

pub returns-in-Ok-clause-whole : goal.returns-in-Ok-clause-whole
returns-in-Ok-clause-whole g c = λ left within below.
    let full : c.args.weight * 2 ^ (64 - c.args.precision) ≤ c.args.state = search rules in
    let least = least_after c.args.precision left c.args.weight c.args.state c.requires.precision.fits c.requires.some full in
    absurd (omega (arith, below, least))

pub returns-in-Ok-clause-ok : goal.returns-in-Ok-clause-ok
returns-in-Ok-clause-ok g c =
    refills-back c.args.state _ _ (omega (arith, c.ranges.state.fits)) c.in-Ok.ensures.pushes

pub returns-in-Ok-clause-wrote : goal.returns-in-Ok-clause-wrote
returns-in-Ok-clause-wrote g c = inr (_, c.in-Ok.ensures.gives)
