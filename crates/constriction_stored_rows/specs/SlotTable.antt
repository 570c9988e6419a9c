-- How lookup models store which rows meet a slot. No public clause cites this module; a ghost field of the model does.
use Rattle.std.specs.Prelude.{◌≡◌, ◌↔◌, ℕ, ◌+◌, ◌-◌, ◌*◌, ◌<◌, ◌≤◌, min, List, length, take, drop, slice_index}
use Rattle.constriction_model.specs.Probe.{IsLastAtMost}
use Rattle.constriction_stored_rows.specs.Stored.{with_total}

-- the first and the last row that meet the slot: the rows of its first and of its last quantile
pub record IsSlot (lefts : List ℕ) (width slot first last : ℕ) : Type 0 where
  pub from : IsLastAtMost lefts (slot * width) first
  pub to : IsLastAtMost lefts (slot * width + (width - 1)) last

-- how many words of the lookup table a slot has: one if it holds one quantile, which only one row meets, else two
abbrev pub words_a_slot : (width : ℕ) → ℕ
words_a_slot width = min width 2

-- the words of a lookup table, or of its beginning: the first word of slot j is the first row that meets it, its last word the last one
pub record HasWords (width : ℕ) (lefts table : List ℕ) : Type 0 where
  pub first : (j : ℕ) → words_a_slot width * j < length table
      → IsLastAtMost lefts (j * width) (slice_index table (words_a_slot width * j))
  pub last : (j : ℕ) → words_a_slot width * j + (words_a_slot width - 1) < length table
      → IsLastAtMost lefts (j * width + (width - 1)) (slice_index table (words_a_slot width * j + (words_a_slot width - 1)))

-- the lookup table has the words of `count` slots
pub record HasSlots (width count : ℕ) (lefts table : List ℕ) : Type 0 where
  pub long : length table ≡ words_a_slot width * count
  pub words : HasWords width lefts table

-- what follows the words of the slots: nothing, or the left cumulatives and after them the total
abbrev pub MayFollow : (bits precision : ℕ) → (lefts words : List ℕ) → Type 0
MayFollow bits precision lefts words = 0 < length words → words ≡ with_total bits precision lefts

-- the lookup table begins with the words of `count` slots
pub record BeginsWithSlots (bits precision width count : ℕ) (lefts table : List ℕ) : Type 0 where
  pub slots : HasSlots width count lefts (take (words_a_slot width * count) table)
  pub rest : MayFollow bits precision lefts (drop (words_a_slot width * count) table)

-- the first word whose quantile is not below `left`: the first word of slot j stands for its first quantile, its last word for its last one
pub record IsFirstWord (width left word : ℕ) : Type 0 where
  pub first : (j : ℕ) → (word ≤ words_a_slot width * j) ↔ (left ≤ j * width)
  pub last : (j : ℕ) → (word ≤ words_a_slot width * j + (words_a_slot width - 1)) ↔ (left ≤ j * width + (width - 1))

-- the list has the left cumulatives of the rows that meet the slot, which are the rows from `first` on
pub record IsSlotPart (lefts : List ℕ) (width slot first : ℕ) (listed : List ℕ) : Type 0 where
  pub last : ℕ
  pub rows : IsSlot lefts width slot first last
  pub long : first + length listed ≡ last + 1
  pub in_order : listed ≡ take (length listed) (drop first lefts)
