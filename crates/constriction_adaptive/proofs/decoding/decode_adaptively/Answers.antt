use Rattle.std.proofs.Common.{◌∷◌, [], arith, ap, inr, refl, length, length-append}
use Rattle.constriction_adaptive.proofs.Runs.{coded-push, decoding-stops}
use Rattle.constriction_adaptive.proofs.decoding.decode_adaptively.Goals as goal

pub loop-done-preserved : goal.loop-done-preserved
loop-done-preserved g c =
    let answers = c.loop-done.answers.items in
    let symbol = c.in-Ok-decode_next.symbol in record {
      goes_on = c.decode_next.ensures.goes_on;
      counted = omega (arith, ap length c.push_reserved.ensures.items, length-append answers (symbol ∷ []), c.loop-done.invariant.counted);
      room = omega (arith, c.push_reserved.ensures.capacity, c.loop-done.invariant.room);
      so_far =
          rw c.push_reserved.ensures.items
          (coded-push g.P.Predictor.next _ answers symbol _ _ _ _ _ _ c.loop-done.invariant.so_far c.in-Ok-decode_next.ensures.ok
          c.in-Ok-decode_next.ensures.learned);
    }

pub returns-in-Err : goal.returns-in-Err
returns-in-Err g c = record {
  goes_on = c.requires;
  ok = tt;
  count = tt;
  err = record {
    done = [];
    reached = c.args.coder.now;
    coded = record { led = refl; learned = refl };
    why = inr (refl, refl, c.into.result, c.into.ensures, refl);
  };
}

pub returns-in-Err-decode_next : goal.returns-in-Err-decode_next
returns-in-Err-decode_next g c = record {
  goes_on = c.decode_next.ensures.goes_on;
  ok = tt;
  count = tt;
  err =
      decoding-stops g.P.Predictor.next _ g.C.Code.held _
      (λ state. g.C.Decode.decodes _ g.P.Model.DecoderModel.may_refuse (g.P.Predictor.rows state)) c.args.count
      c.in-Err-decode_next.error c.loop-done.answers.items _ _ _ c.loop-done.coder _ _ c.loop-done.invariant.so_far
      (omega (arith, c.loop-done.invariant.counted, c.loop-done-test.true)) c.in-Err-decode_next.ensures.err
      c.in-Err-decode_next.ensures.unlearned;
}

pub returns : goal.returns
returns g c = record {
  goes_on = c.loop-done.invariant.goes_on;
  ok = c.loop-done.invariant.so_far;
  count = omega (arith, c.loop-done.invariant.counted, c.loop-done-test.false, c.loop-done.auto.done-end);
  err = tt;
}
