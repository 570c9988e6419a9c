use Rattle.std.proofs.Common.{arith}
use Rattle.constriction_coders.proofs.Filling.{fill-more, filling-stops}
use Rattle.constriction_coders.proofs.decode.Decode.decode_into.Goals as goal

pub returns-in-Err : goal.returns-in-Err
returns-in-Err g c =
    let so = c.loop-done.invariant in
    record {
      goes_on = c.decode_symbol.ensures.goes_on;
      length = so.long;
      ok = tt;
      err =
          filling-stops g.Self.Code.held _ c.args.symbols.now c.loop-done.symbols c.loop-done.done _ c.loop-done.self so.long so.others
          so.so_far _ _ _ c.loop-done-test.true c.in-Err.ensures.step;
    }

pub loop-done-preserved : goal.loop-done-preserved
loop-done-preserved g c =
    let so = c.loop-done.invariant in
    let more =
    fill-more _ c.args.symbols.now c.loop-done.symbols c.loop-done.done _ _ so.long so.others so.so_far c.in-Ok.symbol _
    (omega (arith, c.loop-done-test.true, so.long)) c.in-Ok.ensures.ok in
    record { goes_on = c.decode_symbol.ensures.goes_on; long = more.0; others = more.1; so_far = more.2 }
