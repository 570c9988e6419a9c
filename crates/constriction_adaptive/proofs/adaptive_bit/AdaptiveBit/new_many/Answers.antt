use Rattle.std.proofs.Common.{◌∙◌, arith}
use Rattle.constriction_adaptive.specs.Bit.{bit_rows, zero_weight}
use Rattle.constriction_adaptive.proofs.ListLemmas.{map_more}
use Rattle.constriction_adaptive.proofs.adaptive_bit.AdaptiveBit.new_many.Goals as goal

pub loop-preserved : goal.loop-preserved
loop-preserved c = record {
  long = omega (arith, c.push_reserved.ensures.len, c.loop.invariant.long);
  room = c.push_reserved.ensures.capacity ∙ c.loop.invariant.room;
  even =
      map_more (λ p. zero_weight (bit_rows p.current.zero)) _ c.loop.made.items c.new.result c.loop.counter 32768
      c.push_reserved.ensures.items c.loop.invariant.even c.new.ensures;
}
