use Rattle.std.proofs.Common.{refl, arith}
use Rattle.constriction_coders.proofs.Filling.{fill-more, filled-so-far, filled-to, filling-stops}
use Rattle.constriction_coders.proofs.side_by_side.decode_both.Goals as goal

pub loop-done-init : goal.loop-done-init
loop-done-init g c = record {
  first_goes_on = c.requires.first_can;
  first_long = refl;
  first_others = refl;
  first_led = refl;
  second_goes_on = c.requires.second_can;
  second_long = refl;
  second_others = refl;
  second_led = refl;
}

pub loop-done-preserved : goal.loop-done-preserved
loop-done-preserved g c =
    let so = c.loop-done.invariant in
    let first =
    fill-more _ c.args.first.now c.loop-done.first c.loop-done.done _ _ so.first_long so.first_others so.first_led c.in-Ok.symbol _
    (omega (arith, c.loop-done-test.true, so.first_long, c.requires.first_places)) c.in-Ok.ensures.ok in
    let second =
    fill-more _ c.args.second.now c.loop-done.second c.loop-done.done _ _ so.second_long so.second_others so.second_led
    c.in-Ok-decode_symbol.symbol _ (omega (arith, c.loop-done-test.true, so.second_long, c.requires.second_places))
    c.in-Ok-decode_symbol.ensures.ok in
    record {
      first_goes_on = c.decode_symbol.ensures.goes_on;
      first_long = first.0;
      first_others = first.1;
      first_led = first.2;
      second_goes_on = c.decode_symbol-in-loop-done.ensures.goes_on;
      second_long = second.0;
      second_others = second.1;
      second_led = second.2;
    }

pub returns-in-Err : goal.returns-in-Err
returns-in-Err g c =
    let so = c.loop-done.invariant in
    record {
      first_goes_on = c.decode_symbol.ensures.goes_on;
      second_goes_on = so.second_goes_on;
      first_length = so.first_long;
      second_length = so.second_long;
      first_ok = tt;
      second_ok = tt;
      err = (
        filling-stops g.A.Code.held _ c.args.first.now c.loop-done.first c.loop-done.done _ c.loop-done.first_coder so.first_long
            so.first_others so.first_led _ _ _ (omega (arith, c.loop-done-test.true, c.requires.first_places)) c.in-Err.ensures.step,
        filled-so-far g.B.Code.held _ c.args.second.now c.loop-done.second c.loop-done.done _ c.loop-done.second_coder so.second_long
            so.second_others so.second_led (omega (arith, c.loop-done-test.true, c.requires.second_places)),
      );
    }

pub returns-in-Err-decode_symbol : goal.returns-in-Err-decode_symbol
returns-in-Err-decode_symbol g c =
    let so = c.loop-done.invariant in
    let first =
    fill-more _ c.args.first.now c.loop-done.first c.loop-done.done _ _ so.first_long so.first_others so.first_led c.in-Ok.symbol _
    (omega (arith, c.loop-done-test.true, so.first_long, c.requires.first_places)) c.in-Ok.ensures.ok in
    record {
      first_goes_on = c.decode_symbol.ensures.goes_on;
      second_goes_on = c.decode_symbol-in-loop-done.ensures.goes_on;
      first_length = first.0;
      second_length = so.second_long;
      first_ok = tt;
      second_ok = tt;
      err = (
        filling-stops g.B.Code.held _ c.args.second.now c.loop-done.second c.loop-done.done _ c.loop-done.second_coder so.second_long
            so.second_others so.second_led _ _ _ (omega (arith, c.loop-done-test.true, c.requires.second_places))
            c.in-Err-decode_symbol.ensures.step,
        filled-so-far g.A.Code.held _ c.args.first.now _ _ _ c.decode_symbol.new.self first.0 first.1 first.2
            (omega (arith, c.loop-done-test.true, c.requires.first_places)),
      );
    }

pub returns : goal.returns
returns g c =
    let so = c.loop-done.invariant in
    record {
      first_goes_on = so.first_goes_on;
      second_goes_on = so.second_goes_on;
      first_length = so.first_long;
      second_length = so.second_long;
      first_ok = filled-to g.A.Code.held _ c.args.first.now c.loop-done.first c.loop-done.done _ c.loop-done.first_coder so.first_long
          so.first_others so.first_led c.args.count (omega (arith, c.loop-done-test.false, c.loop-done.auto.done-end))
          c.requires.first_places;
      second_ok = filled-to g.B.Code.held _ c.args.second.now c.loop-done.second c.loop-done.done _ c.loop-done.second_coder so.second_long
          so.second_others so.second_led c.args.count (omega (arith, c.loop-done-test.false, c.loop-done.auto.done-end))
          c.requires.second_places;
      err = tt;
    }
