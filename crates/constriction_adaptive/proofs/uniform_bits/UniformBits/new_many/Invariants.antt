use Rattle.std.proofs.Common.{◌≡◌, length, map}
use Rattle.std.specs.List.{range_with_len}
use Rattle.std.specs.Vec.{vec_capacity}
use Rattle.constriction_adaptive.proofs.uniform_bits.UniformBits.new_many.Given as goal

-- the predictors so far
abbrev pub invariant-loop-bits : goal.invariant-loop-bits
invariant-loop-bits g l = record {
  long : length l.made.items ≡ l.bits;
  room : vec_capacity l.made ≡ vec_capacity l.initial.made;
  each : map (λ p. p.bits) l.made.items ≡ range_with_len 0 l.bits;
}
