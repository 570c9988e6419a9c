-- The rows that were taken from the walk are in the table.
use Rattle.std.proofs.Common.{◌≡◌, ◌++◌, List}
use Rattle.std.specs.Iterator.{IsFinite}
use Rattle.constriction_model.specs.Model.{StandForRows}
use Rattle.constriction_model.specs.Rows.{Row}
use Rattle.constriction_tables.specs.private.Partial.{HoldsTable}
use Rattle.constriction_tables.proofs.by_model.table_of_model.Given as goal

abbrev pub invariant-rows : goal.invariant-rows
invariant-rows g l =
    g.M.SymbolTable.Iterator.can_next l.walk
    × IsFinite (g.M.SymbolTable.Iterator.remaining l.walk)
    × (made first : List (Row g.row.Entry-Symbol.Denot))
    × (g.M.EntropyModel.rows l.fn.model ≡ first ++ g.M.IterableEntropyModel.rows_left l.walk)
    × StandForRows g.M.IterableEntropyModel.stands_for made first
    × HoldsTable g.Entry.TableEntry.number g.Entry.TableEntry.row_in g.Entry.TableEntry.ROW_BITS l.table.entries.items
    l.table.by_symbol.items made
