use Rattle.constriction_tables.proofs.Partials.{nothing-held}
use Rattle.constriction_tables.proofs.partial.PartialTable.with_capacity.Goals as goal

pub returns : goal.returns
returns g c =
    nothing-held g.Entry.TableEntry.number g.Entry.TableEntry.row_in g.Entry.TableEntry.ROW_BITS _ _ c.in_ok-entries.ensures.items
    c.in_ok-by_symbol.ensures.items
