-- What a range decoder holds, and what a symbol does to it.
use Rattle.std.specs.Prelude.{◌≡◌, ℕ, ◌+◌, ◌-◌, ◌*◌, ◌/◌, ◌^◌, ◌<◌, ◌≤◌, ◌⊎◌, List, Contains, Option, Some, None, Result, Ok, Err, IfErr}
use Rattle.std.specs.Prelude.{OnErr, OnOk}
use Rattle.constriction_words.specs.declared.CoderError.{CoderError}
use Rattle.constriction_words.specs.declared.CoderError.TheVariants.{Frontend, Backend}
use Rattle.constriction_model.specs.Model.{RowMayBeRefused}
use Rattle.constriction_model.specs.Rows.{Row}
use Rattle.constriction_coders.specs.declared.queue.range_decoder.DecoderFrontendError.{DecoderFrontendError}
use Rattle.constriction_coders.specs.declared.queue.range_decoder.DecoderFrontendError.TheVariants.{InvalidData, OutOfMemory}

-- An interval of `range` numbers, and a point that lies `offset` above its lower end.
pub record Interval : Type 0 where
  pub range : ℕ
  pub offset : ℕ

-- the same, from both
abbrev pub interval : ℕ → ℕ → Interval
interval r o = record { range = r; offset = o }

-- how many numbers of an interval of `range` numbers belong to each quantile
abbrev pub unit_of : (precision range : ℕ) → ℕ
unit_of precision range = range / 2 ^ precision

-- a decoder may hold this: the interval has at least 2 ^ 32 numbers, and the point is one of them or just above them
abbrev pub DecoderMayHold : Interval → Type 0
DecoderMayHold i = (2 ^ 32 ≤ i.range) × (i.offset ≤ i.range)

-- the point lies in the part of the interval that belongs to these quantiles
pub record HoldsPoint (precision left weight : ℕ) (i : Interval) : Type 0 where
  pub from : unit_of precision i.range * left ≤ i.offset
  pub to : i.offset < unit_of precision i.range * (left + weight)

-- the point lies above all parts
abbrev pub IsAboveAll : ℕ → Interval → Type 0
IsAboveAll precision i = unit_of precision i.range * 2 ^ precision ≤ i.offset

-- the part of the interval that belongs to these quantiles, with the point in it
abbrev pub part_of : (precision left weight : ℕ) → Interval → Interval
part_of precision left weight i = interval (unit_of precision i.range * weight) (i.offset - unit_of precision i.range * left)

-- The decoder may be at the end of its message: it is at the start, or the point lies no higher than it does after the last symbol of a
-- message, whatever words come after those of the message.
abbrev pub MayBeAtEnd : Interval → Type 0
MayBeAtEnd i = (i.range ≡ 2 ^ 64 - 1) ⊎ (i.offset < 2 ^ 33 - 1)

-- the word that a read answered, or 0 for one that is missing
abbrev pub word_or_zero : Option ℕ → ℕ
word_or_zero None = 0
word_or_zero (Some word) = word

module _ {S E : Type 0} (gives : S → Result (Option ℕ) E → S → Type 0) where
  -- An interval of at least 2 ^ 32 numbers stays as it is. A smaller one gets 2 ^ 32 times as many numbers, and a word that is read says
  -- which of the 2 ^ 32 numbers in the place of the point is the point.
  abbrev pub IsWidenedByRead : Interval → S → Interval → S → Type 0
  IsWidenedByRead i from new to =
      ((2 ^ 32 ≤ i.range) × (new ≡ i) × (to ≡ from))
      ⊎ ((i.range < 2 ^ 32) × (answer : Option ℕ) × gives from (Ok answer) to
      × (new ≡ interval (i.range * 2 ^ 32) (i.offset * 2 ^ 32 + word_or_zero answer)))

  -- at the start the interval has all numbers of 64 bits but one, and the point is the first two words
  abbrev pub IsStart : S → Interval → S → Type 0
  IsStart from i to =
      (high low : Option ℕ) × (reached : S) × gives from (Ok high) reached × gives reached (Ok low) to
      × (i ≡ interval (2 ^ 64 - 1) (word_or_zero high * 2 ^ 32 + word_or_zero low))

-- what a decoder holds, and the words that it reads
pub record Held (S : Type 0) : Type 0 where
  pub held : Interval
  pub source : S

-- the same, from its parts
abbrev pub held_of : {S : Type 0} → ℕ → ℕ → S → Held S
held_of range offset source = record { held = interval range offset; source = source }

-- The point lies in the part of the interval that belongs to one of these rows, the symbol stands for that of the row, and the part is held
-- next, stretched if it is small.
pub record IsRead {Symbol S E : Type 0} (Stands : Symbol → Symbol → Type 0) (rows : List (Row Symbol))
    (gives : S → Result (Option ℕ) E → S → Type 0) (precision : ℕ) (symbol : Symbol) (old new : Held S) : Type 0 where
  pub row : Row Symbol
  pub among : Contains rows row
  pub stands : Stands row.symbol symbol
  pub holds : HoldsPoint precision row.left row.weight old.held
  pub next : IsWidenedByRead gives (part_of precision row.left row.weight old.held) old.source new.held new.source

-- this is why a symbol was not decoded, and what that left of the source
abbrev pub IsReadingFault : {Symbol S E : Type 0} → (Symbol → Type 0) → List (Row Symbol) → (S → Result (Option ℕ) E → S → Type 0)
    → (precision : ℕ) → CoderError DecoderFrontendError E → Held S → S → Type 0
IsReadingFault MayRefuse rows gives precision (Frontend InvalidData) at left = IsAboveAll precision at.held × (left ≡ at.source)
IsReadingFault MayRefuse rows gives precision (Frontend OutOfMemory) at left =
    ((quantile : ℕ) × HoldsPoint precision quantile 1 at.held × RowMayBeRefused MayRefuse rows quantile) × (left ≡ at.source)
IsReadingFault MayRefuse rows gives precision (Backend error) at left = gives at.source (Err error) left

-- What a decoder says of decoding a symbol, beside the symbol: if it is decoded, the point lies in the interval; why it is not, and that
-- this leaves the interval with the point.
pub record DecodesFromQueue {Symbol S E : Type 0} (MayRefuse : Symbol → Type 0) (rows : List (Row Symbol))
    (gives : S → Result (Option ℕ) E → S → Type 0) (precision : ℕ) (old : Held S)
    (answer : Result Symbol (CoderError DecoderFrontendError E)) (new : Held S) : Type 0 where
  pub inside : OnOk answer (new.held.offset < new.held.range)
  pub fault : IfErr answer (λ error. IsReadingFault MayRefuse rows gives precision error old new.source)
  pub same : OnErr answer (new.held ≡ old.held)
