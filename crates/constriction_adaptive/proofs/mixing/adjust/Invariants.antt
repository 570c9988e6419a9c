use Rattle.std.proofs.Common.{◌≡◌, ℕ, ◌<◌, ◌≤◌, get_or}
use Rattle.constriction_adaptive.specs.Mixing.{weight_after}
use Rattle.constriction_adaptive.proofs.mixing.adjust.Given as goal

-- each weight so far, and the others as they were
abbrev pub invariant-loop-i : goal.invariant-loop-i
invariant-loop-i l = record {
  value : (k : ℕ) → k < l.i → get_or l.weights k 0 ≡ weight_after l.bit l.error (get_or l.strengths k 0) (get_or l.initial.weights k 0);
  rest : (k : ℕ) → l.i ≤ k → get_or l.weights k 0 ≡ get_or l.initial.weights k 0;
}
