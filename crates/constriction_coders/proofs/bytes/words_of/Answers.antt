use Rattle.std.proofs.Common.{◌≡◌, ◌+◌, ◌*◌, ap, arith, length}
use Rattle.std.proofs.lemmas.List.{length_push}
use Rattle.constriction_coders.specs.lemmas.Bytes.{words_more}
use Rattle.constriction_coders.proofs.bytes.words_of.Goals as goal

pub loop-at-preserved : goal.loop-at-preserved
loop-at-preserved c =
    let l = c.loop-at in
    let pushed = c.push_reserved.ensures.items in
    let next : 4 * (l.at + 1) ≡ 4 * l.at + 4 = omega arith in record {
      counted = omega (arith, ap length pushed, length_push l.words.items c.from_le_bytes.result);
      room = omega (arith, c.push_reserved.ensures.capacity, l.invariant.room);
      so_far = rw (pushed, next) (words_more l.words.items c.args.bytes.now (4 * l.at) _ (omega arith)
          (λ k. omega (arith, c.type_inv.bytes k)) c.from_le_bytes.ensures l.invariant.so_far);
    }
