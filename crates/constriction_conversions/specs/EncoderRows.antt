-- The rows of the encoder that hashes, its member `rows`, under one name for the clauses that speak of them.
use Rattle.std.specs.Prelude.{◌≡◌, ℕ, Bool, List, length}
use Rattle.std.specs.declared.cmp.PartialEq as equality
use Rattle.std.specs.declared.hash.Hash as hash
use Rattle.constriction_numbers.specs.declared.whole_number.WholeNumber as number
use Rattle.constriction_model.specs.Entries.{SameEntries}
use Rattle.constriction_model.specs.Rows.{Row, rows_of}
use Rattle.constriction_conversions.specs.Hashed.{rows_of_table}
use Rattle.constriction_conversions.specs.declared.hashed.NonContiguousCategoricalEncoderModel.{NonContiguousCategoricalEncoderModel}

module _ {Symbol Word NonZero : Type 0} {precision : ℕ} {hashes : hash.Ghosts Symbol} {symbols : equality.Ghosts Symbol}
    {words : number.Ghosts Word NonZero} where
  -- the rows of a hashed encoder's model: the entries of its hash table, in an order without meaning
  abbrev pub encoder_model_rows : NonContiguousCategoricalEncoderModel Symbol Word precision NonZero hashes symbols words
      → List (Row Symbol)
  encoder_model_rows m = rows_of_table (λ e. (words.whole e.left, words.whole (words.base e.weight))) m.table.entries

-- the rows of a hash table for these symbols and weights: they have the same entries, and are as many
abbrev pub AreHashedRowsOf : {Symbol : Type 0} → (Symbol → Symbol → Bool) → List (Row Symbol) → List Symbol → List ℕ → Type 0
AreHashedRowsOf eq rows symbols weights = SameEntries eq rows (rows_of symbols weights) × (length rows ≡ length symbols)
