-- A read and a write of a known cursor.
use Rattle.std.specs.Prelude.{◌≡◌, ℕ, List, [], ◌∷◌, Some}
use Rattle.std.proofs.Common.{refl, subst}
use Rattle.constriction_backends.specs.CursorState.{State}
use Rattle.constriction_client.proofs.Running.{runs-once}
use Rattle.constriction_client.specs.CursorCalls.{Runs}
use Rattle.constriction_client.specs.declared.cursor_calls.CursorCall.{CursorCall}
use Rattle.constriction_client.specs.declared.cursor_calls.CursorCall.TheVariants as call
use Rattle.constriction_client.specs.declared.cursor_calls.CursorReply.{CursorReply}
use Rattle.constriction_client.specs.declared.cursor_calls.CursorReply.TheVariants as reply

abbrev calls : List (CursorCall ℕ)
calls = call.StackRead ∷ call.Write 7 ∷ []

abbrev replies : List (CursorReply ℕ)
replies = reply.Word (Some 10) ∷ reply.Written ∷ []

abbrev at_1 : State ℕ
at_1 = record { before = 10 ∷ []; after = 20 ∷ 30 ∷ [] }

abbrev left : State ℕ
left = record { before = 7 ∷ []; after = 20 ∷ 30 ∷ [] }

-- a run of these calls has these replies, and leaves this state
pub known-run : (s : State ℕ) (found : List (CursorReply ℕ)) (t : State ℕ) → s ≡ at_1 → Runs s calls found t
    → (found ≡ replies) × (t ≡ left)
known-run s found t is ran =
    runs-once at_1 calls replies found left t
    (record { before = []; after = 10 ∷ 20 ∷ 30 ∷ [] }, (refl, refl), (left, (refl, (10, refl)), refl))
    (subst (λ (u : State ℕ). Runs u calls found t) is ran)
