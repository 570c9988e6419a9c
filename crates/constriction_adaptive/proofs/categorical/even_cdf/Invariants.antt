use Rattle.std.proofs.Common.{◌≡◌, ◌*◌, ℕ, ◌<◌, get_or, length}
use Rattle.std.specs.Vec.{vec_capacity}
use Rattle.constriction_adaptive.proofs.categorical.even_cdf.Given as goal

-- the left cumulatives so far
abbrev pub invariant-loop-i : goal.invariant-loop-i
invariant-loop-i g l = record {
  long : length l.cdf.items ≡ l.i;
  room : vec_capacity l.cdf ≡ vec_capacity l.initial.cdf;
  lefts : (k : ℕ) → k < l.i → get_or l.cdf.items k 0 ≡ k * l.weight;
}
