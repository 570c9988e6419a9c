-- Hash tables of entries, as rows.
use Rattle.std.specs.Prelude.{ℕ, List, map}
use Rattle.constriction_model.specs.Rows.{Row}

-- the entries of a hash table as rows, in the order of the hash table's walk
abbrev pub rows_of_table : {Symbol Entry : Type 0} → (Entry → ℕ × ℕ) → List (Symbol × Entry) → List (Row Symbol)
rows_of_table numbers entries = map (λ e. record { symbol = e.0; left = (numbers e.1).0; weight = (numbers e.1).1 }) entries
