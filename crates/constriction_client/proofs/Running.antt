-- Runs of calls: a run and one more call are a run, and each run has one outcome.
use Rattle.std.specs.Prelude.{◌≡◌, ◌↔◌, ◌<◌, ℕ, ◌+◌, Bool, true, false, List, [], ◌∷◌, ◌++◌, length, take, drop, Option, Some, None, IsTrue}
use Rattle.std.proofs.Common.{refl, sym, ◌∙◌, ap, subst, arith, get_or, length-append}
use Rattle.std.proofs.lemmas.List.{take_more, same_from_push}
use Rattle.std.proofs.Math.Seq.{take-append_seam, drop-append_seam}
use Rattle.constriction_backends.specs.CursorState.{State, reversal}
use Rattle.constriction_backends.proofs.CursorRunLaws.{reversal-twice}
use Rattle.constriction_client.proofs.Stepping.{words}
use Rattle.constriction_client.specs.CursorCalls.{RepliesTo, Runs}
use Rattle.constriction_client.specs.declared.cursor_calls.CursorCall.{CursorCall}
use Rattle.constriction_client.specs.declared.cursor_calls.CursorCall.TheVariants as call
use Rattle.constriction_client.specs.declared.cursor_calls.CursorReply.{CursorReply}
use Rattle.constriction_client.specs.declared.cursor_calls.CursorReply.TheVariants as reply

flag-once : (n : ℕ) (a b : Bool) → IsTrue a ↔ (n ≡ 0) → IsTrue b ↔ (n ≡ 0) → b ≡ a
flag-once n true true h k = refl
flag-once n true false h k = k.1 (h.0 refl)
flag-once n false true h k = sym (h.1 (k.0 refl))
flag-once n false false h k = refl

module _ {W : Type 0} where
  -- a run and one more call are a run
  runs-push : (s j t : State W) (calls : List (CursorCall W)) (replies : List (CursorReply W)) (asked : CursorCall W) (said : CursorReply W)
      → Runs s calls replies j → RepliesTo j asked said t → Runs s (calls ++ asked ∷ []) (replies ++ said ∷ []) t
  runs-push s j t [] [] asked said h one = (t, subst (λ (u : State W). RepliesTo u asked said t) (sym h) one, refl)
  runs-push s j t [] (r ∷ rs) asked said h one = absurd h
  runs-push s j t (c ∷ cs) [] asked said h one = absurd h
  runs-push s j t (c ∷ cs) (r ∷ rs) asked said h one = (h.0, h.1, runs-push h.0 j t cs rs asked said h.2 one)

  -- one call more, and its reply
  pub runs-more : (calls : List (CursorCall W)) (i : ℕ) (d : CursorCall W) (s j t : State W) (replies more : List (CursorReply W))
      (said : CursorReply W) → i < length calls → Runs s (take i calls) replies j → RepliesTo j (get_or calls i d) said t
      → more ≡ replies ++ said ∷ [] → Runs s (take (i + 1) calls) more t
  runs-more calls i d s j t replies more said within so_far one is =
      rw (take_more calls i d within, is) (runs-push s j t (take i calls) replies (get_or calls i d) said so_far one)

  -- ---- a call has one outcome

  same-state : (s t : State W) → t.before ≡ s.before → t.after ≡ s.after → t ≡ s
  same-state s t before after = λ i. record { before = before i; after = after i }

  stack-once : (s : State W) (o p : Option W) (t u : State W) → RepliesTo s call.StackRead (reply.Word o) t
      → RepliesTo s call.StackRead (reply.Word p) u → (p ≡ o) × (u ≡ t)
  stack-once s None None t u h k = (refl, k.1 ∙ sym h.1)
  stack-once s None (Some v) t u h k = absurd (omega (arith, ap length h.0, ap length k.0, length-append u.before (v ∷ [])))
  stack-once s (Some w) None t u h k = absurd (omega (arith, ap length k.0, ap length h.0, length-append t.before (w ∷ [])))
  stack-once s (Some w) (Some v) t u h k =
      let one = same_from_push u.before t.before v w (sym k.0 ∙ h.0) in
      (ap Some one.1, same-state t u one.0 (k.1 ∙ ap (λ x. x ∷ s.after) one.1 ∙ sym h.1))

  -- equal lists have the same first word and the same rest
  same-parts : (v w : W) (vs ws : List W) → v ∷ vs ≡ w ∷ ws → (v ≡ w) × (vs ≡ ws)
  same-parts v w vs ws e = (cc, cc)

  queue-once : (s : State W) (o p : Option W) (t u : State W) → RepliesTo s call.QueueRead (reply.Word o) t
      → RepliesTo s call.QueueRead (reply.Word p) u → (p ≡ o) × (u ≡ t)
  queue-once s None None t u h k = (refl, k.1 ∙ sym h.1)
  queue-once s None (Some v) t u h k = absurd (omega (arith, ap length h.0, ap length k.0))
  queue-once s (Some w) None t u h k = absurd (omega (arith, ap length k.0, ap length h.0))
  queue-once s (Some w) (Some v) t u h k =
      let one = same-parts v w u.after t.after (sym k.0 ∙ h.0) in
      (ap Some one.0, same-state t u (k.1 ∙ ap (λ x. s.before ++ x ∷ []) one.0 ∙ sym h.1) one.1)

  written-once : (s : State W) (w : W) (t u : State W) → RepliesTo s (call.Write w) reply.Written t
      → RepliesTo s (call.Write w) reply.Written u → u ≡ t
  written-once s w t u h k =
      same-state t u (k.0 ∙ sym h.0) (same-parts k.1.0 h.1.0 u.after t.after (sym k.1.1 ∙ h.1.1)).1

  moved-once : (s : State W) (q : ℕ) (t u : State W) → RepliesTo s (call.Seek q) reply.Moved t
      → RepliesTo s (call.Seek q) reply.Moved u → u ≡ t
  moved-once s q t u h k =
      let long : length u.before ≡ length t.before = k.1 ∙ sym h.1 in
      let all : words u ≡ words t = k.0 ∙ sym h.0 in
      same-state t u
      (sym (take-append_seam u.before u.after) ∙ ap (take (length u.before)) all ∙ ap (λ n. take n (words t)) long
      ∙ take-append_seam t.before t.after)
      (sym (drop-append_seam u.before u.after) ∙ ap (drop (length u.before)) all ∙ ap (λ n. drop n (words t)) long
      ∙ drop-append_seam t.before t.after)

  replies-once : (s : State W) (asked : CursorCall W) (said other : CursorReply W) (t u : State W) → RepliesTo s asked said t
      → RepliesTo s asked other u → (other ≡ said) × (u ≡ t)
  replies-once s call.StackRead (reply.Word o) (reply.Word p) t u h k =
      let one = stack-once s o p t u h k in
      (ap (λ x. reply.Word x) one.0, one.1)
  replies-once s call.QueueRead (reply.Word o) (reply.Word p) t u h k =
      let one = queue-once s o p t u h k in
      (ap (λ x. reply.Word x) one.0, one.1)
  replies-once s (call.Write w) reply.Written reply.Written t u h k = (refl, written-once s w t u h k)
  replies-once s (call.Write w) reply.Written reply.OutOfSpace t u h k = absurd (omega (arith, ap length h.1.1, ap length k.0))
  replies-once s (call.Write w) reply.OutOfSpace reply.Written t u h k = absurd (omega (arith, ap length k.1.1, ap length h.0))
  replies-once s (call.Write w) reply.OutOfSpace reply.OutOfSpace t u h k = (refl, k.1 ∙ sym h.1)
  replies-once s (call.Seek q) reply.Moved reply.Moved t u h k = (refl, moved-once s q t u h k)
  replies-once s (call.Seek q) reply.Moved reply.NotMoved t u h k =
      absurd (omega (arith, ap length h.0, h.1, k.0, length-append t.before t.after))
  replies-once s (call.Seek q) reply.NotMoved reply.Moved t u h k =
      absurd (omega (arith, ap length k.0, k.1, h.0, length-append u.before u.after))
  replies-once s (call.Seek q) reply.NotMoved reply.NotMoved t u h k = (refl, k.1 ∙ sym h.1)
  replies-once s call.StackRemaining (reply.Count m) (reply.Count n) t u h k = (ap (λ x. reply.Count x) (k.0 ∙ sym h.0), k.1 ∙ sym h.1)
  replies-once s call.QueueRemaining (reply.Count m) (reply.Count n) t u h k = (ap (λ x. reply.Count x) (k.0 ∙ sym h.0), k.1 ∙ sym h.1)
  replies-once s call.SpaceLeft (reply.Count m) (reply.Count n) t u h k = (ap (λ x. reply.Count x) (k.0 ∙ sym h.0), k.1 ∙ sym h.1)
  replies-once s call.Position (reply.Count m) (reply.Count n) t u h k = (ap (λ x. reply.Count x) (k.0 ∙ sym h.0), k.1 ∙ sym h.1)
  replies-once s call.StackExhausted (reply.Flag a) (reply.Flag b) t u h k =
      (ap (λ x. reply.Flag x) (flag-once (length s.before) a b h.0 k.0), k.1 ∙ sym h.1)
  replies-once s call.QueueExhausted (reply.Flag a) (reply.Flag b) t u h k =
      (ap (λ x. reply.Flag x) (flag-once (length s.after) a b h.0 k.0), k.1 ∙ sym h.1)
  replies-once s call.Full (reply.Flag a) (reply.Flag b) t u h k =
      (ap (λ x. reply.Flag x) (flag-once (length s.after) a b h.0 k.0), k.1 ∙ sym h.1)
  replies-once s asked said other t u h k = absurd (assumption)

  -- ---- a run has one outcome

  -- calls on a state have one list of replies, and leave one state
  pub runs-once : (s : State W) (calls : List (CursorCall W)) (replies others : List (CursorReply W)) (t u : State W)
      → Runs s calls replies t → Runs s calls others u → (others ≡ replies) × (u ≡ t)
  runs-once s [] [] [] t u h k = (refl, sym k ∙ h)
  runs-once s (c ∷ cs) (r ∷ rs) (o ∷ os) t u h k =
      let one = replies-once s c r o h.0 k.0 h.1 k.1 in
      let rest = runs-once h.0 cs rs os t u h.2 (subst (λ (j : State W). Runs j cs os u) one.1 k.2) in
      (ap (λ x. x ∷ os) one.0 ∙ ap (λ xs. r ∷ xs) rest.0, rest.1)
  runs-once s calls replies others t u h k = absurd (assumption)

  -- a run in a state, and a run in a state that is equal to it, have the same replies and end in equal states
  pub runs_alike : (calls : List (CursorCall W)) (s t turned left : State W) (replies others : List (CursorReply W))
      → turned ≡ reversal s → Runs s calls replies t → Runs (reversal turned) calls others (reversal left)
      → (others ≡ replies) × (left ≡ reversal t) × (t ≡ reversal left)
  runs_alike calls s t turned left replies others is run back =
      let there : reversal turned ≡ s = ap reversal is ∙ reversal-twice s in
      let one = runs-once s calls replies others t (reversal left) run
      (subst (λ (j : State W). Runs j calls others (reversal left)) there back) in
      (one.0, sym (reversal-twice left) ∙ ap reversal one.1, sym one.1)
