use Rattle.std.proofs.Common.{◌≡◌, ℕ, ◌<◌, get_or}
use Rattle.constriction_adaptive.specs.Mixing.{squash}
use Rattle.constriction_adaptive.proofs.mixer.tables.fill_squashes.Given as goal

-- each weight so far
abbrev pub invariant-loop-i : goal.invariant-loop-i
invariant-loop-i l = (k : ℕ) → k < l.i → get_or l.table k 0 ≡ squash k
