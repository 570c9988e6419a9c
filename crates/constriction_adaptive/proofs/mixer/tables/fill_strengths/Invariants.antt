use Rattle.std.proofs.Common.{◌≡◌, ◌+◌, ◌-◌, ◌*◌, ℕ, ◌<◌, get_or}
use Rattle.constriction_adaptive.specs.Mixing.{logarithm}
use Rattle.constriction_adaptive.proofs.mixer.tables.fill_strengths.Given as goal

-- each strength so far
abbrev pub invariant-loop-i : goal.invariant-loop-i
invariant-loop-i l = (k : ℕ) → k < l.i → get_or l.table k 0 ≡ 2048 + logarithm (2 * k + 1) - logarithm (8191 - 2 * k)
