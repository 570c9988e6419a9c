use Rattle.std.proofs.Common.{sym}
use Rattle.constriction_backends.specs.Cursor.{buf_of, state_of}
use Rattle.constriction_client.proofs.Running.{runs_alike}
use Rattle.constriction_client.proofs.laws.runs.run_cursor_and_reversal.Goals as goal

pub returns-clause-alike : goal.returns-clause-alike
returns-clause-alike g c = λ is.
    runs_alike c.args.calls.now (state_of c.args.cursor.now) (state_of c.run_reserved-replies.new.cursor) (state_of c.args.reversed.now.0)
    (state_of c.run_reversed_reserved-others.new.reversed.0) c.run_reserved-replies.result.items c.run_reversed_reserved-others.result.items
    is c.run_reserved-replies.ensures.ran c.run_reversed_reserved-others.ensures.ran

pub returns-in_err-replies-clause-kept : goal.returns-in_err-replies-clause-kept
returns-in_err-replies-clause-kept g c = sym (g.met.Buf.SafeBufMut.unchanged (buf_of c.args.cursor.now))

pub returns-in_err-replies-clause-reversed_kept : goal.returns-in_err-replies-clause-reversed_kept
returns-in_err-replies-clause-reversed_kept g c =
    sym (g.met.Turned.SafeBufMut.unchanged (buf_of c.args.reversed.now.0))

pub returns-in_err-others-clause-reversed_kept : goal.returns-in_err-others-clause-reversed_kept
returns-in_err-others-clause-reversed_kept g c =
    sym (g.met.Turned.SafeBufMut.unchanged (buf_of c.args.reversed.now.0))
