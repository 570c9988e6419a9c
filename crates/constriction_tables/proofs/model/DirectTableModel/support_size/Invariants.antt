-- The rows so far and those that are left are all rows.
use Rattle.std.proofs.Common.{◌≡◌, ◌+◌, length, map}
use Rattle.constriction_tables.specs.Table.{rows_after, rows_in_table}
use Rattle.constriction_tables.proofs.model.DirectTableModel.support_size.Given as goal

abbrev pub invariant-rows : goal.invariant-rows
invariant-rows g l =
    (goal.iterator-rows g).can_next l.walk × (goal.iterator-rows g).is_finite l.walk
    × (l.count + length (rows_after l.walk.from (map g.Entry.TableEntry.row_in l.walk.entries.now))
    ≡ length (rows_in_table (map g.Entry.TableEntry.row_in l.fn.self.entries.items)))
