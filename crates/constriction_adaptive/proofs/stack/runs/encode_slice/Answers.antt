use Rattle.std.proofs.Common.{refl}
use Rattle.constriction_adaptive.proofs.stack.runs.encode_slice.Goals as goal

pub returns-in-Err : goal.returns-in-Err
returns-in-Err g c = record { ok = tt; err = (c.in-Err.ensures.err, refl) }

pub put_entries-requires-clause-entries : goal.put_entries-requires-clause-entries
put_entries-requires-clause-entries g c =
    (g.P.Predictor.state c.args.predictor.now, c.args.symbols.now, rw c.deref.ensures.value c.in-Ok.ensures.ok)

pub returns-in-Ok-put_entries : goal.returns-in-Ok-put_entries
returns-in-Ok-put_entries g c = record {
  ok = record {
    led =
        c.in-Ok-put_entries.ensures.ok (g.P.Predictor.state c.args.predictor.now) c.args.symbols.now
        (rw c.deref.ensures.value c.in-Ok.ensures.ok);
    learned = c.in-Ok.ensures.learned;
  };
  err = tt;
}

pub returns : goal.returns
returns g c =
    let stops = c.in-Err-put_entries.ensures.err (g.P.Predictor.state c.args.predictor.now) c.args.symbols.now
    (rw c.deref.ensures.value c.in-Ok.ensures.ok) in
    record { ok = tt; err = (stops.0, stops.1, stops.2, stops.3, c.in-Ok.ensures.learned, stops.4) }
