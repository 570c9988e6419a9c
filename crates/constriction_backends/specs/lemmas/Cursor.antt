-- The steps of a cursor's state meet the laws of sources and sinks. The impls cite these.
use Rattle.std.specs.Prelude.{◌≡◌, ◌≤◌, ℕ, List, [], ◌∷◌, ◌++◌, length, reverse, Option, Some, None, Result, Ok, Err}
use Rattle.std.proofs.Common.{sym, ◌∙◌, ap, subst, length-append, add-one}
use Rattle.std.proofs.lemmas.List.{reverse-append}
use Rattle.std.proofs.Math.Bridge.{le_prop}
use Rattle.constriction_buffers.specs.declared.buf.SafeBuf.{Ghosts}
use Rattle.constriction_backends.specs.declared.cursor.Cursor.{Cursor}
use Rattle.constriction_sources.specs.Source.{ReadsUpcoming, CountsRead}
use Rattle.constriction_sources.specs.Sink.{WritesAppend, CountsWrite}
use Rattle.constriction_backends.specs.CursorState.{State, StackReads, QueueReads, Overwrites}

module _ {S W E : Type 0} (view : S → State W) where
  -- as a stack a cursor gives the words before its position, last first
  pub StackReads-upcoming : (s : S) (r : Result (Option W) E) (t : S) → StackReads (view s) r (view t) → (words : List W)
      → words ≡ reverse (view s).before → ReadsUpcoming (λ u ws. ws ≡ reverse (view u).before) words r t
  StackReads-upcoming s (Ok None) t h words e = (e ∙ ap reverse h.0, sym (ap (λ u. reverse u.before) h.1 ∙ ap reverse h.0))
  StackReads-upcoming s (Ok (Some w)) t h words e = (
    reverse (view t).before,
    e ∙ (ap reverse h.0 ∙ reverse-append (view t).before (w
        ∷ [])),
    λ _. reverse (view t).before,
  )
  StackReads-upcoming s (Err x) t h words e = absurd h

  -- it counts them
  pub StackReads-counts : (s : S) (r : Result (Option W) E) (t : S) → StackReads (view s) r (view t)
      → CountsRead (length (view s).before) r (length (view t).before)
  StackReads-counts s (Ok None) t h = (ap length h.0, ap (λ u. length u.before) h.1 ∙ ap length h.0)
  StackReads-counts s (Ok (Some w)) t h = ap length h.0 ∙ length-append (view t).before (w ∷ [])
  StackReads-counts s (Err x) t h = absurd h

  -- as a queue it gives the words from its position on
  pub QueueReads-upcoming : (s : S) (r : Result (Option W) E) (t : S) → QueueReads (view s) r (view t) → (words : List W)
      → words ≡ (view s).after → ReadsUpcoming (λ u ws. ws ≡ (view u).after) words r t
  QueueReads-upcoming s (Ok None) t h words e = (e ∙ h.0, sym (ap (λ u. u.after) h.1 ∙ h.0))
  QueueReads-upcoming s (Ok (Some w)) t h words e = ((view t).after, e ∙ h.0, λ _. (view t).after)
  QueueReads-upcoming s (Err x) t h words e = absurd h

  -- it counts them
  pub QueueReads-counts : (s : S) (r : Result (Option W) E) (t : S) → QueueReads (view s) r (view t)
      → CountsRead (length (view s).after) r (length (view t).after)
  QueueReads-counts s (Ok None) t h = (ap length h.0, ap (λ u. length u.after) h.1 ∙ ap length h.0)
  QueueReads-counts s (Ok (Some w)) t h = rw add-one (ap length h.0)
  QueueReads-counts s (Err x) t h = absurd h

  -- a write appends to the words before the position
  pub Overwrites-append : (s : S) (w : W) (r : Result (Unit {0}) E) (t : S) → Overwrites (view s) w r (view t) → (words : List W)
      → (view s).before ≡ words → WritesAppend (λ u ws. (view u).before ≡ ws) words w r t
  Overwrites-append s w (Ok x) t h words e = h.0 ∙ ap (λ ws. ws ++ w ∷ []) e
  Overwrites-append s w (Err x) t h words e = ap (λ u. u.before) h.1 ∙ e

  -- it takes the place of one of those from the position on, if there is one
  pub Overwrites-counts : (s : S) (w : W) (r : Result (Unit {0}) E) (t : S) → Overwrites (view s) w r (view t)
      → CountsWrite (length (view s).after) r (length (view t).after)
  Overwrites-counts s w (Ok x) t h = rw add-one (ap length h.1.1)
  Overwrites-counts s w (Err x) t h = (ap length h.0, ap (λ u. length u.after) h.1 ∙ ap length h.0)

module _ {W B : Type 0} {g : Ghosts B W} where
  abbrev at_position : (b : B) (p : ℕ) → p ≤ length (g.words_of b) → Cursor W B g
  at_position b p h = record { buf = b; pos = p; phantom = record {}; in_range = h }

  -- cursors with the same buffer and position are equal
  pub same_cursor : (c d : Cursor W B g) → d.buf ≡ c.buf → d.pos ≡ c.pos → d ≡ c
  same_cursor c d e k =
      let ranges = λ (h : c.pos ≤ length (g.words_of c.buf)). ap (at_position c.buf c.pos) (le_prop h c.in_range) in
      let positions = subst (λ (p : ℕ). (h : p ≤ length (g.words_of c.buf)) → at_position c.buf p h ≡ c) (sym k) ranges in
      subst (λ (b : B). (h : d.pos ≤ length (g.words_of b)) → at_position b d.pos h ≡ c) (sym e) positions d.in_range
