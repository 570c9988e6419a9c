use Rattle.std.proofs.Common.{◌≡◌, ◌+◌, ℕ, ◌<◌, get_or}
use Rattle.constriction_adaptive.specs.Mixing.{strength}
use Rattle.constriction_adaptive.proofs.mixer.inputs.ask.Given as goal

-- what each slot said so far
abbrev pub invariant-loop-i : goal.invariant-loop-i
invariant-loop-i l = (k : ℕ) → k < l.i → get_or l.strengths k 0 ≡ strength (get_or l.slots (get_or l.places k 0 + l.path) 0)
