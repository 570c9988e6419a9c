use Rattle.std.proofs.Common.{◌≡◌, ◌^◌, ◌≤◌, take}
use Rattle.std.specs.Prelude.{sum}
use Rattle.constriction_tables.specs.Table.{weighted_rows}
use Rattle.constriction_tables.specs.private.Partial.{HoldsTable}
use Rattle.constriction_tables.proofs.by_number.table_of_weights.Given as goal

-- the rows of the weights so far
abbrev pub invariant-loop-number : goal.invariant-loop-number
invariant-loop-number g l = record {
  held : HoldsTable g.Entry.TableEntry.number g.Entry.TableEntry.row_in g.Entry.TableEntry.ROW_BITS l.table.entries.items
      l.table.by_symbol.items (weighted_rows g.Entry.TableEntry.symbol_of (take l.number l.weights));
  total : l.left ≡ sum (take l.number l.weights);
  within : l.left ≤ 2 ^ g.row.PRECISION;
}
