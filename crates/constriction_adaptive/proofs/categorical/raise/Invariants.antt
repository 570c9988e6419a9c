use Rattle.std.proofs.Common.{◌≡◌, ◌+◌, ◌-◌, ◌/◌, ◌^◌, ℕ, ◌<◌, ◌≤◌, get_or}
use Rattle.constriction_adaptive.proofs.categorical.raise.Given as goal

-- each left cumulative so far moved, and the others are as they were
abbrev pub invariant-loop-i : goal.invariant-loop-i
invariant-loop-i g l = record {
  moved : (k : ℕ) → l.begin ≤ k → k < l.i
      → get_or l.cdf k 0 ≡ get_or l.initial.cdf k 0 + (l.others + k - get_or l.initial.cdf k 0) / 2 ^ g.row.RATE;
  before : (k : ℕ) → k < l.begin → get_or l.cdf k 0 ≡ get_or l.initial.cdf k 0;
  same : (k : ℕ) → l.i ≤ k → get_or l.cdf k 0 ≡ get_or l.initial.cdf k 0;
}
