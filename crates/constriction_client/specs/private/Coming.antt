-- Words that are the next ones to come from a source. `tells` is that of a source.
use Rattle.std.specs.Prelude.{◌≡◌, ℕ, ◌^◌, ◌<◌, List, ◌++◌, length, All, Option}
use Rattle.constriction_buffers.specs.declared.buf.SafeBuf.{Ghosts}
use Rattle.constriction_backends.specs.declared.cursor.Cursor.{Cursor}
use Rattle.constriction_backends.specs.Cursor.{buf_of, pos_of}
use Rattle.constriction_client.specs.Placing.{PlacesItems}

-- the words are the next ones to come from s, and others may come after them
pub record ComeNext {Word Source : Type 0} (tells : Source → List Word → Type 0) (s : Source) (words : List Word)
    : Type 0 where
  pub rest : List Word
  pub known : tells s (words ++ rest)

-- the next `count` words to come from s are quantiles
pub record QuantilesCome {Word Source : Type 0} (precision : ℕ) (whole : Word → ℕ) (tells : Source → List Word → Type 0)
    (count : ℕ) (s : Source) : Type 0 where
  pub words : List Word
  pub next : ComeNext tells s words
  pub many : length words ≡ count
  pub in_range : All (λ w. whole w < 2 ^ precision) words

-- the quantiles of the items were placed, and t is where c was
pub record GoesBack {Symbol Word Buf : Type 0} {g : Ghosts Buf Word} (entry : Symbol → Option (ℕ × ℕ)) (whole : Word → ℕ)
    (with_words : Buf → List Word → Buf) (c : Cursor Word Buf g) (items : List (Symbol × Word))
    (t : Cursor Word Buf g) : Type 0 where
  pub reached : Cursor Word Buf g
  pub placed : PlacesItems entry whole with_words c items reached
  pub buf : buf_of t ≡ buf_of reached
  pub pos : pos_of t ≡ pos_of c
