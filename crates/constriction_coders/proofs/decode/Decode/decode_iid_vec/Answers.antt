use Rattle.std.proofs.Common.{[], arith, ap, inl, inr, length, refl}
use Rattle.std.proofs.lemmas.List.{length_push}
use Rattle.constriction_model.specs.lemmas.Turns.{turn-last}
use Rattle.constriction_coders.proofs.decode.Decode.decode_iid_vec.Goals as goal

pub returns-in-Err-decode_symbol : goal.returns-in-Err-decode_symbol
returns-in-Err-decode_symbol g c = record {
  goes_on = c.decode_symbol.ensures.goes_on;
  ok = tt;
  count = tt;
  err = record {
    done = c.loop-done.symbols.items;
    reached = c.loop-done.self;
    led = c.loop-done.invariant.so_far;
    why = inl (omega (arith, c.loop-done.invariant.counted), c.in-Err-decode_symbol.ensures.step);
  };
}

pub returns-in-Err : goal.returns-in-Err
returns-in-Err g c = record {
  goes_on = c.requires;
  ok = tt;
  count = tt;
  err = record { done = []; reached = c.args.self.now; led = refl; why = inr (refl, refl, c.into.result, c.into.ensures, refl) };
}

pub returns : goal.returns
returns g c =
    let so = c.loop-done.invariant in
    record {
      goes_on = so.goes_on;
      ok = so.so_far;
      count = omega (arith, so.counted, c.loop-done-test.false, c.loop-done.auto.done-end);
      err = tt;
    }

pub loop-done-preserved : goal.loop-done-preserved
loop-done-preserved g c =
    let pushed = c.push_reserved.ensures.items in record {
      goes_on = c.decode_symbol.ensures.goes_on;
      counted = omega (arith, ap length pushed, length_push c.loop-done.symbols.items c.in-Ok-decode_symbol.symbol);
      room = omega (arith, c.push_reserved.ensures.capacity, c.loop-done.invariant.room);
      so_far = rw pushed (turn-last _ _ _ _ _ _ c.loop-done.invariant.so_far c.in-Ok-decode_symbol.ensures.ok);
    }
