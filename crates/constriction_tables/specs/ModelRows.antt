-- The rows of a model over a table, its member `rows`, under one name for the clauses that speak of them.
use Rattle.std.specs.Prelude.{ℕ, List, map}
use Rattle.constriction_model.specs.Rows.{Row}
use Rattle.constriction_tables.specs.Table.{rows_in_table}
use Rattle.constriction_tables.specs.declared.entry.TableEntry as entry
use Rattle.constriction_tables.specs.declared.model.DirectTableModel.{DirectTableModel}

module _ {Entry Symbol : Type 0} {precision : ℕ} {words : entry.Ghosts Entry Symbol} where
  -- the rows of a model over a table: those of its entries that stand where they begin
  abbrev pub table_model_rows : DirectTableModel Entry precision Symbol words → List (Row Symbol)
  table_model_rows m = rows_in_table (map words.row_in m.entries.items)
