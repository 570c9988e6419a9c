use Rattle.std.proofs.Common.{◌≡◌, ◌+◌, ◌*◌, ℕ, ◌<◌, ◌≤◌, get_or}
use Rattle.constriction_adaptive.specs.Mixing.{place}
use Rattle.constriction_adaptive.proofs.mixer.inputs.find.Given as goal

-- each place so far
abbrev pub invariant-loop-i : goal.invariant-loop-i
invariant-loop-i l = record {
  value : (k : ℕ) → k < l.i → get_or l.places k 0 ≡ place l.groups l.history l.half l.followed (get_or l.contexts k 0);
  below : (k : ℕ) → k < l.i → get_or l.places k 0 + 16 ≤ 16 * l.groups;
}
