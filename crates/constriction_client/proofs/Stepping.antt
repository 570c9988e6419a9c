-- A seek in the reversal of a state: a position there is as far from the other end.
use Rattle.std.specs.Prelude.{◌≡◌, ◌≤◌, ℕ, ◌-◌, ◌++◌, List, length, take, drop, reverse}
use Rattle.std.proofs.Common.{sym, ◌∙◌, ap, arith, take-append-drop, length-drop}
use Rattle.std.proofs.lemmas.List.{reverse-append, length-reverse}
use Rattle.constriction_backends.specs.CursorState.{State, state, reversal}
use Rattle.constriction_client.specs.CursorCalls.{RepliesTo}
use Rattle.constriction_client.specs.declared.cursor_calls.CursorCall.TheVariants as call
use Rattle.constriction_client.specs.declared.cursor_calls.CursorReply.TheVariants as reply

-- all words
abbrev pub words : {W : Type 0} → State W → List W
words s = s.before ++ s.after

words-turned : {W : Type 0} (xs : List W) (p : ℕ) → words (reversal (state xs p)) ≡ reverse xs
words-turned xs p = sym (reverse-append (take p xs) (drop p xs)) ∙ ap reverse (take-append-drop p xs)

-- the reversal of a state can seek back to where it stood
pub seek_back : {W : Type 0} (xs ys all : List W) (p q n : ℕ) → ys ≡ xs → all ≡ xs → n ≡ length all - q → q ≤ length all
    → RepliesTo (reversal (state xs p)) (call.Seek q) reply.Moved (reversal (state ys n))
seek_back xs ys all p q n stays whole there within = (
  words-turned ys n ∙ ap reverse stays ∙ sym (words-turned xs p),
  length-reverse (drop n ys) ∙ length-drop n ys ∙ omega (arith, ap length stays, ap length whole, there, within),
)
