use Rattle.std.proofs.Common.{length, ap, rules, arith}
use Rattle.std.proofs.lemmas.List.{length_push}
use Rattle.constriction_backends.proofs.CursorRunLaws.{twice}
use Rattle.constriction_client.proofs.Running.{runs-more}
use Rattle.constriction_client.proofs.cursor_runs.run_reversed_reserved.Goals as goal

pub loop-call-preserved : goal.loop-call-preserved
loop-call-preserved g c =
    let buf = g.Buf.SafeBufMut in
    let law = g.met.Buf.SafeBufMut in
    record {
      ran =
          runs-more c.args.calls.now c.loop-call.call-index c.call-item.result _ _ _ _ _ c.step_reversed-reply.result c.loop-call-test.true
          c.loop-call.invariant.ran (rw c.call-item.is at c.step_reversed-reply.ensures.replied) c.push_reserved.ensures.items;
      kept = twice buf.with_words law.stand law.keeps_length law.unchanged law.again c.args.reversed.now.0.buf
          c.loop-call.reversed.0.buf c.step_reversed-reply.new.reversed.0.buf (g.Buf.SafeBuf.words_of c.loop-call.reversed.0.buf)
          c.loop-call.invariant.kept c.step_reversed-reply.ensures.kept;
      counted = omega (
        arith,
        c.loop-call.invariant.counted,
        ap length c.push_reserved.ensures.items,
        length_push c.loop-call.replies.items c.step_reversed-reply.result,
      );
      room = search rules;
    }
