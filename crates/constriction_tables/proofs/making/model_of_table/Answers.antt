use Rattle.std.proofs.Common.{arith, List, subst, sym}
use Rattle.std.specs.List.{IsDistinct}
use Rattle.constriction_model.specs.Rows.{Row, symbols_of}
use Rattle.constriction_tables.specs.Table.{HasEntries, same_number}
use Rattle.constriction_tables.proofs.Partials.{held-table}
use Rattle.constriction_tables.proofs.making.model_of_table.Goals as goal

pub invariant_of-result : goal.invariant_of-result
invariant_of-result g c =
    let number = g.Entry.TableEntry.number in
    let list = c.args.table.by_symbol.items in
    let held = c.requires.made.1 in
    let t = held-table number g.Entry.TableEntry.row_in g.Entry.TableEntry.ROW_BITS g.row.PRECISION c.args.table.entries.items list
    c.requires.made.0 c.requires.precision.fits held c.requires.made.2 in
    let width = g.met.Entry.TableEntry.width_law in
    record {
      precise = record {
        positive = c.requires.precision.positive;
        fits = omega (arith, c.requires.precision.fits, width);
      };
      narrow = c.requires.precision.fits;
      full = t.2;
      table = t.1;
      coded = subst (λ (rows : List (Row g.row.Entry-Symbol.Denot)). HasEntries number list rows) (sym t.0) held.coded;
      distinct = subst (λ (rows : List (Row g.row.Entry-Symbol.Denot)). IsDistinct (same_number number) (symbols_of rows)) (sym t.0)
          held.distinct;
    }

pub returns : goal.returns
returns g c = λ rows held tile.
    (held-table g.Entry.TableEntry.number g.Entry.TableEntry.row_in g.Entry.TableEntry.ROW_BITS g.row.PRECISION c.args.table.entries.items
    c.args.table.by_symbol.items rows c.requires.precision.fits held tile).0
