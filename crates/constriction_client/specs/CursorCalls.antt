-- What a cursor replies to a call, which state the call leaves, and runs of calls.
-- A state is the words before the position and those from it on, and a call moves words from one list to the other.
use Rattle.std.specs.Prelude.{◌≡◌, ◌↔◌, ◌<◌, List, [], ◌∷◌, ◌++◌, length, Ok, Err, IsTrue}
use Rattle.std.specs.declared.convert.Infallible.{Infallible}
use Rattle.constriction_backends.specs.CursorState.{State, StackReads, QueueReads, Overwrites}
use Rattle.constriction_client.specs.declared.cursor_calls.CursorCall.{CursorCall}
use Rattle.constriction_client.specs.declared.cursor_calls.CursorCall.TheVariants as call
use Rattle.constriction_client.specs.declared.cursor_calls.CursorReply.{CursorReply}
use Rattle.constriction_client.specs.declared.cursor_calls.CursorReply.TheVariants as reply

-- The call has this reply in the state s, and leaves t. Only reads, writes and seeks move a cursor.
abbrev pub RepliesTo : {W : Type 0} → State W → CursorCall W → CursorReply W → State W → Type 0
RepliesTo s call.StackRead (reply.Word word) t = StackReads {E = Infallible} s (Ok word) t
RepliesTo s call.QueueRead (reply.Word word) t = QueueReads {E = Infallible} s (Ok word) t
RepliesTo s (call.Write word) reply.Written t = Overwrites {E = Unit {0}} s word (Ok tt) t
RepliesTo s (call.Write word) reply.OutOfSpace t = Overwrites {E = Unit {0}} s word (Err tt) t
RepliesTo s (call.Seek position) reply.Moved t = (t.before ++ t.after ≡ s.before ++ s.after) × (length t.before ≡ position)
RepliesTo s (call.Seek position) reply.NotMoved t = (length (s.before ++ s.after) < position) × (t ≡ s)
RepliesTo s call.StackRemaining (reply.Count count) t = (count ≡ length s.before) × (t ≡ s)
RepliesTo s call.QueueRemaining (reply.Count count) t = (count ≡ length s.after) × (t ≡ s)
RepliesTo s call.SpaceLeft (reply.Count count) t = (count ≡ length s.after) × (t ≡ s)
RepliesTo s call.Position (reply.Count count) t = (count ≡ length s.before) × (t ≡ s)
RepliesTo s call.StackExhausted (reply.Flag flag) t = (IsTrue flag ↔ (length s.before ≡ 0)) × (t ≡ s)
RepliesTo s call.QueueExhausted (reply.Flag flag) t = (IsTrue flag ↔ (length s.after ≡ 0)) × (t ≡ s)
RepliesTo s call.Full (reply.Flag flag) t = (IsTrue flag ↔ (length s.after ≡ 0)) × (t ≡ s)
RepliesTo s _ _ t = ⊥

-- calls in a row from s have these replies, and lead to t
abbrev pub Runs : {W : Type 0} → State W → List (CursorCall W) → List (CursorReply W) → State W → Type 0
Runs s [] [] t = s ≡ t
Runs {W} s (call ∷ calls) (reply ∷ replies) t = (j : State W) × RepliesTo s call reply j × Runs j calls replies t
Runs s _ _ t = ⊥
