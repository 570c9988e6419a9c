-- What the contracts of a cursor name: its buffer, its position and its state.
use Rattle.std.specs.Prelude.{◌≡◌, ◌↔◌, ◌-◌, ◌++◌, ℕ, List, length, drop, reverse, slice_set, ◌<◌, ◌≤◌, ◌⊎◌, IsOk, Result, MatchResult}
use Rattle.std.proofs.Common.{inl, inr}
use Rattle.std.proofs.lemmas.Bool.{cases_lt}
use Rattle.constriction_buffers.specs.declared.buf.SafeBuf.{Ghosts}
use Rattle.constriction_backends.specs.declared.cursor.Cursor.{Cursor}
use Rattle.constriction_backends.specs.CursorState.{State, state, reversal, Overwrites}

module _ {W B : Type 0} {g : Ghosts B W} (c : Cursor W B g) where
  abbrev pub buf_of : B
  buf_of = c.buf

  abbrev pub pos_of : ℕ
  pos_of = c.pos

  -- the buffer and the position, which make up a cursor
  abbrev pub buf_and_pos : B × ℕ
  buf_and_pos = (c.buf, c.pos)

  -- the words of the buffer, cut at the position
  abbrev pub state_of : State W
  state_of = state (g.words_of c.buf) c.pos

  -- A seek keeps the buffer and takes the new position, or is refused, if that is past the words, and changes nothing.
  abbrev pub SeeksTo : ℕ → Result (Unit {0}) (Unit {0}) → Cursor W B g → Type 0
  SeeksTo pos r t =
      MatchResult r
      (λ _. (pos ≤ length (g.words_of c.buf)) × (t.buf ≡ c.buf) × (t.pos ≡ pos))
      (λ _. (length (g.words_of c.buf) < pos) × (t ≡ c))

  -- The word w was put at position p of the words, and the buffer is the old one with other words; or w was refused, and nothing changed.
  -- `with_words b ws` is the buffer b with the words ws in it.
  abbrev pub PutsAt : {E : Type 0} → (B → List W → B) → ℕ → W → Result (Unit {0}) E → Cursor W B g → Type 0
  PutsAt with_words p w r t =
      MatchResult r
      (λ _. (g.words_of t.buf ≡ slice_set (g.words_of c.buf) p w) × (t.buf ≡ with_words c.buf (g.words_of t.buf)))
      (λ _. t ≡ c)

  -- a write takes the step of the state and puts the word at the position, and is refused if and only if the position is not below the
  -- number of words
  abbrev pub WritesTo : {E : Type 0} → (B → List W → B) → W → Result (Unit {0}) E → Cursor W B g → Type 0
  WritesTo with_words w r t =
      Overwrites (state_of) w r (state (g.words_of t.buf) t.pos)
      × PutsAt with_words c.pos w r t
      × (IsOk r ↔ (c.pos < length (g.words_of c.buf)))

  module _ (b : B) where
    -- the cursor over that buffer if the position is in its range, else the cursor as it was
    abbrev pub over_if : (length (g.words_of b) < c.pos) ⊎ (c.pos ≤ length (g.words_of b)) → Cursor W B g
    over_if (inl _) = c
    over_if (inr h) = record c { buf = b; in_range = h }

    -- The cursor at the same position over another buffer, or the cursor as it was if that buffer is too short. No buffer becomes shorter
    -- because it lends its words.
    abbrev pub over : Cursor W B g
    over = over_if (cases_lt (length (g.words_of b)) c.pos)

-- The words were written to the cursor c, which is t now: they come after the words before the position and replace as many others, and
-- the buffer is the old one with other words.
abbrev pub OverwritesAll : {W B : Type 0} {g : Ghosts B W} → (B → List W → B) → Cursor W B g → List W → Cursor W B g → Type 0
OverwritesAll {g = g} with_words c words t =
    ((state_of t).before ≡ (state_of c).before ++ words) × ((state_of t).after ≡ drop (length words) (state_of c).after)
    × (buf_of t ≡ with_words (buf_of c) (g.words_of (buf_of t)))

-- The cursor c was turned round, and is t now: its words are reversed in the same buffer, and are cut at the same place.
-- `with_words b ws` is the buffer b with the words ws in it.
pub record TurnsRound {W B : Type 0} {g : Ghosts B W} (with_words : B → List W → B) (c t : Cursor W B g) : Type 0 where
  pub buf : t.buf ≡ with_words c.buf (reverse (g.words_of c.buf))
  pub pos : t.pos ≡ length (g.words_of c.buf) - c.pos
  pub state : state_of t ≡ reversal (state_of c)
