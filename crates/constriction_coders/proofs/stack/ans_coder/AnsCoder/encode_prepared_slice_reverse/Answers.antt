use Rattle.std.proofs.Common.{Err, ap, arith}
use Rattle.constriction_coders.proofs.Stopping.{back-all, back-more, back-stops}
use Rattle.constriction_coders.proofs.stack.ans_coder.AnsCoder.encode_prepared_slice_reverse.Goals as goal

pub loop-done-preserved : goal.loop-done-preserved
loop-done-preserved g c =
    record {
      counted = c.loop-done.invariant.counted;
      so_far = back-more _ c.args.symbols.now c.loop-done.done _ c.index-symbols-count.result _ _ (omega (arith, c.loop-done-test.true))
          c.index-symbols-count.is c.in-Ok.ensures.ok c.loop-done.invariant.so_far;
    }

pub returns : goal.returns
returns g c =
    record {
      ok = back-all _ c.args.symbols.now c.loop-done.done _ _ (omega (arith, c.loop-done-test.false)) c.loop-done.invariant.so_far;
      err = tt;
    }

pub returns-in-Err : goal.returns-in-Err
returns-in-Err g c =
    record {
      ok = tt;
      err = back-stops _ _ _ _ c.args.symbols.now c.loop-done.done _ c.index-symbols-count.result c.loop-done.self _ _
          (omega (arith, c.loop-done-test.true)) c.index-symbols-count.is c.loop-done.invariant.so_far
          (λ fault is. c.in-Err.ensures.impossible fault (ap Err is)) c.in-Err.ensures.wrote c.in-Err.ensures.same;
    }
