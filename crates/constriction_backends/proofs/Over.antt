-- The cursor at the same position over another buffer. No public clause cites this module.
use Rattle.std.proofs.Common.{◌≡◌, length, ◌<◌, ◌≤◌, ◌⊎◌, arith, ap, ◌∙◌, inl, inr}
use Rattle.std.proofs.lemmas.Bool.{cases_lt}
use Rattle.std.proofs.Math.Bridge.{le_prop}
use Rattle.constriction_buffers.specs.declared.buf.SafeBuf.{Ghosts}
use Rattle.constriction_backends.specs.declared.cursor.Cursor.{Cursor}
use Rattle.constriction_backends.specs.Cursor.{over, over_if}

module _ {W B : Type 0} {g : Ghosts B W} (c : Cursor W B g) where
  abbrev at_buffer : (b : B) → c.pos ≤ length (g.words_of b) → Cursor W B g
  at_buffer b h = record c { buf = b; in_range = h }

  over_either : (b : B) (h : c.pos ≤ length (g.words_of b))
      (s : (length (g.words_of b) < c.pos) ⊎ (c.pos ≤ length (g.words_of b)))
      → record c { buf = b; in_range = h } ≡ over_if c b s
  over_either b h (inl l) = absurd (omega arith)
  over_either b h (inr k) = ap (at_buffer b) (le_prop h k)

  -- it is over that buffer if the position is in range
  pub over_in_range : (b : B) (h : c.pos ≤ length (g.words_of b)) → record c { buf = b; in_range = h } ≡ over c b
  over_in_range b h = over_either b h (cases_lt (length (g.words_of b)) c.pos)

  -- the same for a buffer under another name
  pub over_known : (b d : B) → b ≡ d → (h : c.pos ≤ length (g.words_of b)) → record c { buf = b; in_range = h } ≡ over c d
  over_known b d e h = over_in_range b h ∙ ap (over c) e
