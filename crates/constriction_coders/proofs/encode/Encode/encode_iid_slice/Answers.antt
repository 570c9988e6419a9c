use Rattle.std.proofs.Common.{Err, suc, drop, take, ap}
use Rattle.constriction_coders.proofs.Stopping.{split-at-symbol, turn-more}
use Rattle.constriction_coders.proofs.encode.Encode.encode_iid_slice.Goals as goal

pub loop-symbol-preserved : goal.loop-symbol-preserved
loop-symbol-preserved g c =
    turn-more c.args.symbols.now c.loop-symbol.symbol-index c.symbol-item.result c.loop-symbol-test.true c.symbol-item.is _ _ _ _
    c.loop-symbol.invariant c.in-Ok.ensures.ok

pub returns-in-Err-clause-err : goal.returns-in-Err-clause-err
returns-in-Err-clause-err g c = (
  take c.loop-symbol.symbol-index c.args.symbols.now,
  c.symbol-item.result,
  drop (suc c.loop-symbol.symbol-index) c.args.symbols.now,
  split-at-symbol c.args.symbols.now c.loop-symbol.symbol-index c.symbol-item.result c.loop-symbol-test.true c.symbol-item.is,
  record {
    reached = c.loop-symbol.self;
    led = c.loop-symbol.invariant;
    impossible = λ fault is. c.in-Err.ensures.impossible fault (ap Err is);
    step = c.in-Err.ensures.step;
    same = c.in-Err.ensures.same;
  },
)
