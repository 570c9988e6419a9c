use Rattle.std.proofs.Common.{◌≡◌, drop}
use Rattle.constriction_adaptive.specs.Mixing.{slots_moved}
use Rattle.constriction_adaptive.proofs.mixer.inputs.learn.Given as goal

-- moving the rest gives what moving all gives
abbrev pub invariant-loop-place : goal.invariant-loop-place
invariant-loop-place l =
    slots_moved l.bit l.path (drop l.place-index l.places) l.slots ≡ slots_moved l.bit l.path l.places l.initial.slots
