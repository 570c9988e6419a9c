use Rattle.std.proofs.Common.{◌≡◌, length, map, replicate}
use Rattle.std.specs.Vec.{vec_capacity}
use Rattle.constriction_adaptive.specs.Bit.{bit_rows, zero_weight}
use Rattle.constriction_adaptive.proofs.adaptive_bit.AdaptiveBit.new_many.Given as goal

-- the predictors so far
abbrev pub invariant-loop : goal.invariant-loop
invariant-loop l = record {
  long : length l.made.items ≡ l.counter;
  room : vec_capacity l.made ≡ vec_capacity l.initial.made;
  even : map (λ p. zero_weight (bit_rows p.current.zero)) l.made.items ≡ replicate l.counter 32768;
}
