use Rattle.std.proofs.Common.{◌≡◌, ◌≤◌, take, length, vec_len, vec_capacity}
use Rattle.constriction_backends.specs.Cursor.{state_of}
use Rattle.constriction_backends.specs.CursorState.{reversal}
use Rattle.constriction_client.specs.CursorCalls.{Runs}
use Rattle.constriction_client.proofs.cursor_runs.run_reversed_reserved.Given as goal

-- the calls so far were run
abbrev pub invariant-loop-call : goal.invariant-loop-call
invariant-loop-call g l = record {
  ran : Runs (reversal (state_of l.fn.reversed.0)) (take l.call-index l.calls) l.replies.items (reversal (state_of l.reversed.0));
  kept : l.reversed.0.buf ≡ g.Buf.SafeBufMut.with_words l.fn.reversed.0.buf (g.Buf.SafeBuf.words_of l.reversed.0.buf);
  counted : vec_len l.replies ≡ l.call-index;
  room : length l.calls ≤ vec_capacity l.replies;
}
