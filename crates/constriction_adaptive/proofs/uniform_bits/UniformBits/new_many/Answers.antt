use Rattle.std.proofs.Common.{[], ◌∷◌, ◌++◌, ◌+◌, map, ap, sym, ◌∙◌, arith, zero-add}
use Rattle.std.specs.List.{range_with_len}
use Rattle.std.proofs.lemmas.List.{map-id, map_push}
use Rattle.std.proofs.lemmas.List.FromFn.{map-range_with_len_more}
use Rattle.constriction_adaptive.proofs.uniform_bits.UniformBits.new_many.Goals as goal

pub loop-bits-preserved : goal.loop-bits-preserved
loop-bits-preserved g c =
    let b = c.loop-bits.bits in
    let more = sym (map-id (range_with_len 0 (b + 1))) ∙ map-range_with_len_more (λ n. n) 0 b b (zero-add b)
    ∙ ap (λ ns. ns ++ b ∷ []) (map-id (range_with_len 0 b)) in
    record {
      long = omega (arith, c.push_reserved.ensures.len, c.loop-bits.invariant.long);
      room = c.push_reserved.ensures.capacity ∙ c.loop-bits.invariant.room;
      each = ap (map (λ p. p.bits)) c.push_reserved.ensures.items ∙ map_push (λ p. p.bits) c.loop-bits.made.items c.new.result
          ∙ ap (λ n. map (λ p. p.bits) c.loop-bits.made.items ++ n ∷ []) c.new.ensures
          ∙ ap (λ ns. ns ++ b ∷ []) c.loop-bits.invariant.each ∙ sym more;
    }
