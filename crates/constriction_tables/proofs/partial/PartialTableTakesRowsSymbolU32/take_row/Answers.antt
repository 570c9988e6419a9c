use Rattle.std.proofs.Common.{◌≡◌, ◌∙◌, ap, rules, vec_len}
use Rattle.std.specs.Prelude.{List, None, false, slice_index_or}
use Rattle.std.specs.List.{list_any}
use Rattle.constriction_model.specs.Rows.{Row, symbols_of}
use Rattle.constriction_tables.specs.Table.{HasEntries, same_number}
use Rattle.constriction_tables.specs.lemmas.Tables.{same_number-equivalence}
use Rattle.constriction_tables.proofs.Partials.{listed-any, table-more}
use Rattle.constriction_tables.proofs.partial.PartialTableTakesRowsSymbolU32.take_row.Goals as goal
use Rattle.constriction_tables.proofs.partial.PartialTableTakesRowsSymbolU32.take_row.Given.{Over}

pub returns-then-is_some-clause-repeated : goal.returns-then-is_some-clause-repeated
returns-then-is_some-clause-repeated g c = λ _ rows held.
    listed-any g.Entry.TableEntry.number (same_number-equivalence g.Entry.TableEntry.number g.met.Entry.TableEntry.same_law)
    c.args.self.now.by_symbol.items rows held.coded c.args.symbol c.to_index-index.result c.entry_at.result c.to_index-index.ensures.value
    (c.entry_at.ensures ∙ ap (λ xs. slice_index_or xs c.to_index-index.result None) c.deref.ensures.value) ∙ search rules

-- no row has the symbol
absent : (g : Over) (c : goal.In_ok-resize g) (rows : List (Row g.row.Entry-Symbol.Denot))
    → HasEntries g.Entry.TableEntry.number c.args.self.now.by_symbol.items rows
    → list_any (same_number g.Entry.TableEntry.number c.args.symbol) (symbols_of rows) ≡ false
absent g c rows coded =
    listed-any g.Entry.TableEntry.number (same_number-equivalence g.Entry.TableEntry.number g.met.Entry.TableEntry.same_law)
    c.args.self.now.by_symbol.items rows coded c.args.symbol c.to_index-index.result c.entry_at.result c.to_index-index.ensures.value
    (c.entry_at.ensures ∙ ap (λ xs. slice_index_or xs c.to_index-index.result None) c.deref.ensures.value) ∙ search rules

pub returns-clause-apart : goal.returns-clause-apart
returns-clause-apart g c = λ _ rows held. absent g c rows held.coded

pub returns-clause-held : goal.returns-clause-held
returns-clause-held g c = λ _ rows held.
    table-more g.Entry.TableEntry.number g.Entry.TableEntry.row_in g.Entry.TableEntry.ROW_BITS c.args.self.now.entries.items
    c.resize.new.self.items c.args.self.now.by_symbol.items c.list_entry.new.list.items rows c.args.symbol c.to_index-index.result
    c.args.left c.args.weight c.pack.result c.new.result c.new.ensures.left c.new.ensures.weight c.to_index-index.ensures.value
    c.in_ok-list_entry.ensures c.pack.ensures
    (vec_len c.args.self.now.entries) (search rules) c.in_ok-resize.ensures.items
    (same_number-equivalence g.Entry.TableEntry.number g.met.Entry.TableEntry.same_law) (absent g c rows held.coded) held
