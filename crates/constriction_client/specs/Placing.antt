-- Items that are written to a cursor from its position on: which places their quantiles take, and what stands elsewhere.
-- `with_words b ws` is the buffer b with the words ws in it, `entry` gives the entry of each symbol, and `whole` the number of each word.
use Rattle.std.specs.Prelude.{◌≡◌, ℕ, List, [], Option}
use Rattle.constriction_words.specs.declared.coder_error.CoderError.{CoderError}
use Rattle.constriction_words.specs.declared.coder_error.CoderError.TheVariants.{Frontend, Backend}
use Rattle.constriction_words.specs.declared.read_write_error.ReadWriteError.{ReadWriteError}
use Rattle.constriction_words.specs.declared.read_write_error.ReadWriteError.TheVariants.{Read, Write}
use Rattle.constriction_buffers.specs.declared.buf.SafeBuf.{Ghosts}
use Rattle.constriction_backends.specs.declared.cursor.Cursor.{Cursor}
use Rattle.constriction_backends.specs.Cursor.{buf_of, state_of, OverwritesAll}
use Rattle.constriction_client.specs.declared.quantiles.QuantileFault.{QuantileFault}
use Rattle.constriction_client.specs.Quantiles.{IsQuantileOf, IsFaultOf, AreQuantiles, StopsAmong}

module _ {Symbol Word Buf : Type 0} {g : Ghosts Buf Word} (entry : Symbol → Option (ℕ × ℕ)) (whole : Word → ℕ)
    (with_words : Buf → List Word → Buf) (c : Cursor Word Buf g) where
  -- the quantiles of the items overwrote as many words from the position of the cursor c on, and t stands after them
  pub record PlacesItems (items : List (Symbol × Word)) (t : Cursor Word Buf g) : Type 0 where
    pub words : List Word
    pub quantiles : AreQuantiles entry whole items words
    pub overwrote : OverwritesAll with_words c words t

  -- What a fault leaves. If memory was refused while the words were read, nothing is known of the position.
  abbrev pub EndsPlacing : {ReadError WriteError : Type 0} → List (Symbol × Word)
      → CoderError QuantileFault (ReadWriteError ReadError WriteError) → Cursor Word Buf g → Type 0
  EndsPlacing items (Frontend fault) t = StopsAmong items (λ before item. PlacesItems before t × IsFaultOf entry whole item fault)
  EndsPlacing items (Backend (Write _)) t =
      StopsAmong items (λ before item. PlacesItems before t × (q : ℕ) × IsQuantileOf entry whole item q) × ((state_of t).after ≡ [])
  EndsPlacing items (Backend (Read _)) t = (j : Cursor Word Buf g) × PlacesItems items j × (buf_of t ≡ buf_of j)
