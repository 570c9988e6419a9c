use Rattle.std.proofs.Common.{refl}
use Rattle.constriction_adaptive.proofs.stack.runs.encode_items.Goals as goal

pub returns-in-Err : goal.returns-in-Err
returns-in-Err g c =
    let stops = c.in-Err.ensures in (stops.0, stops.1, stops.2, stops.3, stops.4, stops.5, refl)

pub put_entries-requires-clause-entries : goal.put_entries-requires-clause-entries
put_entries-requires-clause-entries g c =
    let kept = c.in-Ok.ensures in
    (g.P.Predictor.state c.args.predictor.now, kept.0, rw c.deref.ensures.value kept.3)

pub returns-in-Ok-put_entries : goal.returns-in-Ok-put_entries
returns-in-Ok-put_entries g c =
    let kept = c.in-Ok.ensures in (
      kept.0,
      kept.1,
      record {
        led =
            c.in-Ok-put_entries.ensures.ok (g.P.Predictor.state c.args.predictor.now) kept.0 (rw c.deref.ensures.value kept.3);
        learned = kept.2;
      },
    )

pub returns : goal.returns
returns g c =
    let kept = c.in-Ok.ensures in
    let stops = c.in-Err-put_entries.ensures.err (g.P.Predictor.state c.args.predictor.now) kept.0
    (rw c.deref.ensures.value kept.3) in
    (kept.0, kept.1, (stops.0, stops.1, stops.2, stops.3, kept.2, stops.4))
