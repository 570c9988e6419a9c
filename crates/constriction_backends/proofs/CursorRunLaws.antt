-- Laws that follow from the steps of a cursor. No public clause cites this module.
use Rattle.std.proofs.Common.{◌≡◌, ◌<◌, ◌≤◌, suc, List, [], ◌∷◌, ◌++◌, length, drop, reverse, Option, Some, None, Result, Ok, Err}
use Rattle.std.specs.Prelude.{◌↔◌, IsOk}
use Rattle.constriction_backends.specs.declared.cursor.Cursor.{Cursor}
use Rattle.std.proofs.Common.{sym, ◌∙◌, ap, subst, arith, refl, append_assoc, append-nil}
use Rattle.std.proofs.lemmas.List.{reverse-append, reverse-reverse, length-reverse}
use Rattle.constriction_buffers.specs.declared.buf.SafeBuf.{Ghosts}
use Rattle.constriction_backends.specs.Cursor.{state_of, SeeksTo, TurnsRound, WritesTo}
use Rattle.constriction_backends.specs.lemmas.Cursor.{same_cursor}
use Rattle.constriction_backends.specs.CursorState.{State, reversal, StackReads, QueueReads}
use Rattle.constriction_sources.specs.Sink.{Writes}

-- the reversal of the reversal of a state is the state
pub reversal-twice : {W : Type 0} (s : State W) → reversal (reversal s) ≡ s
reversal-twice {W = W} s =
    let made = λ (b a : List W). let u : State W = record { before = b; after = a } in u in
    ap (λ b. made b (reverse (reverse s.after))) (reverse-reverse s.before) ∙ ap (made s.before) (reverse-reverse s.after)

stack-to_queue : {W E : Type 0} (s : State W) (r : Result (Option W) E) (t : State W) → StackReads s r t
    → QueueReads (reversal s) r (reversal t)
stack-to_queue s (Ok None) t h = (ap reverse h.0, ap reversal h.1)
stack-to_queue s (Ok (Some w)) t h =
    (ap reverse h.0 ∙ reverse-append t.before (w ∷ []), ap reverse h.1 ∙ reverse-append (w ∷ []) s.after)
stack-to_queue s (Err x) t h = absurd h

queue-to_stack : {W E : Type 0} (s : State W) (r : Result (Option W) E) (t : State W) → QueueReads s r t
    → StackReads (reversal s) r (reversal t)
queue-to_stack s (Ok None) t h = (ap reverse h.0, ap reversal h.1)
queue-to_stack s (Ok (Some w)) t h =
    (ap reverse h.0 ∙ reverse-append (w ∷ []) t.after, ap reverse h.1 ∙ reverse-append s.before (w ∷ []))
queue-to_stack s (Err x) t h = absurd h

-- a reversal reads as a queue what the state reads as a stack, and the other way round
pub reversal-reads : {W E : Type 0} (s : State W)
    → ((r : Result (Option W) E) (t : State W)
    → (StackReads s r t ↔ QueueReads (reversal s) r (reversal t)) × (QueueReads s r t ↔ StackReads (reversal s) r (reversal t)))
    × (s.after ≡ reverse (reversal s).before) × (reverse s.before ≡ (reversal s).after)
reversal-reads {W} {E} s =
    let back_stack = λ (r : Result (Option W) E) (t : State W) (h : QueueReads (reversal s) r (reversal t)).
    subst (λ (u : State W). StackReads u r t) (reversal-twice s)
    (subst (λ (u : State W). StackReads (reversal (reversal s)) r u) (reversal-twice t) (queue-to_stack (reversal s) r (reversal t) h)) in
    let back_queue = λ (r : Result (Option W) E) (t : State W) (h : StackReads (reversal s) r (reversal t)).
    subst (λ (u : State W). QueueReads u r t) (reversal-twice s)
    (subst (λ (u : State W). QueueReads (reversal (reversal s)) r u) (reversal-twice t) (stack-to_queue (reversal s) r (reversal t) h)) in
    (λ r t. ((stack-to_queue s r t, back_stack r t), (queue-to_stack s r t, back_queue r t)), sym (reverse-reverse s.after), refl)

module _ {W B : Type 0} {g : Ghosts B W} where
  -- a cursor can seek back to a position that it had, with as many words as then
  pub cursor_seeks_back : (taken later : Cursor W B g) (r : Result (Unit {0}) (Unit {0})) (t : Cursor W B g)
      → length (g.words_of later.buf) ≡ length (g.words_of taken.buf) → SeeksTo later taken.pos r t
      → IsOk r × (t.pos ≡ taken.pos) × (t.buf ≡ later.buf)
  cursor_seeks_back taken later (Ok x) t same h = (search, h.2, h.1)
  cursor_seeks_back taken later (Err x) t same h =
      let in_range : taken.pos ≤ length (g.words_of taken.buf) = taken.in_range in
      let past : length (g.words_of later.buf) < taken.pos = h.0 in
      absurd (omega arith)

  -- a cursor that seeks its own position stays as it is
  pub seek_stays : (c : Cursor W B g) (r : Result (Unit {0}) (Unit {0})) (t : Cursor W B g) → SeeksTo c c.pos r t → IsOk r × (t ≡ c)
  seek_stays c (Ok x) t h = (search, same_cursor c t h.1 h.2)
  seek_stays c (Err x) t h =
      let in_range : c.pos ≤ length (g.words_of c.buf) = c.in_range in
      let past : length (g.words_of c.buf) < c.pos = h.0 in
      absurd (omega arith)

  module _ (with_words : B → List W → B)
      (stand : (b : B) (ws : List W) → length ws ≡ length (g.words_of b) → g.words_of (with_words b ws) ≡ ws)
      (keeps_length : (b : B) (ws : List W) → length (g.words_of (with_words b ws)) ≡ length (g.words_of b))
      (unchanged : (b : B) → with_words b (g.words_of b) ≡ b)
      (again : (b : B) (ws vs : List W) → length vs ≡ length (g.words_of b)
      → with_words (with_words b ws) vs ≡ with_words b vs) where
    -- a buffer that is given words twice has the last ones
    pub twice : (b j d : B) (ws : List W) → j ≡ with_words b ws → d ≡ with_words j (g.words_of d) → d ≡ with_words b (g.words_of d)
    twice b j d ws e k =
        let one : length (g.words_of j) ≡ length (g.words_of b) = ap (λ x. length (g.words_of x)) e ∙ keeps_length b ws in
        let two : length (g.words_of d) ≡ length (g.words_of j) = ap (λ x. length (g.words_of x)) k ∙ keeps_length j (g.words_of d) in
        k ∙ (ap (λ x. with_words x (g.words_of d)) e ∙ again b ws (g.words_of d) (two ∙ one))

    -- successful writes in a row overwrite words from the position on
    pub extending_overwrites : (E : Type 0) (c : Cursor W B g) (words : List W) (d : Cursor W B g)
        → Writes {E = E} (λ s w r t. WritesTo s with_words w r t) c words d
        → ((state_of d).before ≡ (state_of c).before ++ words)
        × ((state_of d).after ≡ drop (length words) (state_of c).after)
        × (d.buf ≡ with_words c.buf (g.words_of d.buf))
    extending_overwrites E c [] d e = (
      sym (ap (λ x. (state_of x).before) e) ∙ sym (append-nil (state_of c).before),
      sym (ap (λ x. (state_of x).after) e),
      sym (ap (λ x. x.buf) e) ∙ (sym (unchanged c.buf) ∙ ap (λ x. with_words c.buf (g.words_of x.buf)) e),
    )
    extending_overwrites E c (w ∷ words) d (j, h, rest) =
        let others = extending_overwrites E j words d rest in (
          others.0 ∙ (ap (λ l. l ++ words) h.0.0 ∙ append_assoc (state_of c).before (w ∷ []) words),
          others.1 ∙ sym (ap (drop (suc (length words))) h.0.1.1),
          twice c.buf j.buf d.buf (g.words_of j.buf) h.1.1 others.2,
        )

    -- a cursor that was turned round twice is as it was
    pub turned_twice : (c t d : Cursor W B g) → TurnsRound with_words c t → TurnsRound with_words t d → d ≡ c
    turned_twice c t d once back_again =
        let all = g.words_of c.buf in
        let turned : g.words_of t.buf ≡ reverse all = ap g.words_of once.buf ∙ stand c.buf (reverse all) (length-reverse all) in
        let back : reverse (g.words_of t.buf) ≡ all = ap reverse turned ∙ reverse-reverse all in
        let long : length (g.words_of t.buf) ≡ length all = ap length turned ∙ length-reverse all in
        let in_range : c.pos ≤ length all = c.in_range in
        let pos : d.pos ≡ c.pos = omega (arith, once.pos, back_again.pos) in
        same_cursor c d
        (back_again.buf ∙ (ap (with_words t.buf) back ∙ (ap (λ b. with_words b all) once.buf
        ∙ (again c.buf (reverse all) all refl
        ∙ unchanged c.buf)))) pos
