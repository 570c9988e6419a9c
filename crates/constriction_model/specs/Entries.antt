-- When two lists of rows have the same entries.
use Rattle.std.specs.Prelude.{◌≡◌, Bool, List, length}
use Rattle.std.specs.Set.{distinct_count}
use Rattle.constriction_model.specs.Model.{StandForRows}
use Rattle.constriction_model.specs.Rows.{Row, entry_of, symbols_of}

-- each symbol has the same entry in both lists, or none in both
abbrev pub SameEntries : {Symbol : Type 0} → (Symbol → Symbol → Bool) → List (Row Symbol) → List (Row Symbol) → Type 0
SameEntries {Symbol} eq rows others = (s : Symbol) → entry_of eq rows s ≡ entry_of eq others s

-- These rows have the entries of clones of the others: for each symbol, the entry of the last row whose clone is equal to it. They are as
-- many as there are distinct clones. Stands is what is known of a clone.
pub record HoldsEntriesOf {Symbol : Type 0} (eq : Symbol → Symbol → Bool) (Stands : Symbol → Symbol → Type 0)
    (rows others : List (Row Symbol)) : Type 0 where
  pub made : List (Row Symbol)
  pub stand : StandForRows Stands made others
  pub entries : SameEntries eq rows made
  pub size : length rows ≡ distinct_count eq (symbols_of made)
