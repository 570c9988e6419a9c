-- Tables that are being made.
use Rattle.std.specs.Prelude.{◌≡◌, ℕ, ◌^◌, ◌≤◌, List, Option, map, sum}
use Rattle.std.specs.List.{IsDistinct}
use Rattle.constriction_coders.specs.declared.stack.prepared_entry.PreparedEntry.{PreparedEntry}
use Rattle.constriction_model.specs.Rows.{Row, rows_of, symbols_of}
use Rattle.constriction_tables.specs.Table.{HasEntries, same_number, spread}

-- rows that fit words: each begins where the one before it ends, and the last one ends at 2 ^ row_bits or before
pub record Fit {Symbol : Type 0} (row_bits : ℕ) (rows : List (Row Symbol)) : Type 0 where
  pub in_order : rows ≡ rows_of (symbols_of rows) (map (λ r. r.weight) rows)
  pub within : sum (map (λ r. r.weight) rows) ≤ 2 ^ row_bits

-- these words and entries are those of these rows, of which no two have the same symbol; the words, if the rows fit
pub record HoldsTable {Symbol Entry : Type 0} (number : Symbol → ℕ) (row_in : Entry → Row Symbol) (row_bits : ℕ) (entries : List Entry)
    (list : List (Option PreparedEntry)) (rows : List (Row Symbol)) : Type 0 where
  pub coded : HasEntries number list rows
  pub distinct : IsDistinct (same_number number) (symbols_of rows)
  pub stand : Fit row_bits rows → map row_in entries ≡ spread rows
