use Rattle.constriction_model.specs.Acceptance.{AreAccepted, completed}
use Rattle.constriction_model.specs.Rows.{rows_of}
use Rattle.constriction_categorical.proofs.ReadEntries.{read-of_both}
use Rattle.constriction_tables.specs.Table.{same_number}
use Rattle.constriction_tables.specs.private.Partial.{HoldsTable}
use Rattle.constriction_tables.proofs.by_symbol.table_read.Goals as goal

pub rows_read-requires-clause-symbols_go : goal.rows_read-requires-clause-symbols_go
rows_read-requires-clause-symbols_go g c =
    (c.requires.symbols_end c.into_iter-symbols.result c.into_iter-symbols.ensures.into_iter_gives).0

pub rows_read-requires-clause-symbols_end : goal.rows_read-requires-clause-symbols_end
rows_read-requires-clause-symbols_end g c =
    (c.requires.symbols_end c.into_iter-symbols.result c.into_iter-symbols.ensures.into_iter_gives).1

pub rows_read-requires-clause-weights_go : goal.rows_read-requires-clause-weights_go
rows_read-requires-clause-weights_go g c =
    (c.requires.probabilities_end c.into_iter-probabilities.result c.into_iter-probabilities.ensures.into_iter_gives).0

pub rows_read-requires-clause-weights_end : goal.rows_read-requires-clause-weights_end
rows_read-requires-clause-weights_end g c =
    (c.requires.probabilities_end c.into_iter-probabilities.result c.into_iter-probabilities.ensures.into_iter_gives).1

pub returns : goal.returns
returns g c =
    read-of_both g.S.IntoIterator.into_iter_gives g.S.IntoIter.Iterator.next_gives c.args.symbols
    g.P.IntoIterator.into_iter_gives g.P.IntoIter.Iterator.next_gives c.args.probabilities
    (AreAccepted (same_number g.Entry.TableEntry.number) 32 g.row.PRECISION) (completed g.row.PRECISION c.args.infer_last_probability)
    (λ w. w)
    (λ t ss ws. HoldsTable g.Entry.TableEntry.number g.Entry.TableEntry.row_in g.Entry.TableEntry.ROW_BITS t.entries.items t.by_symbol.items
    (rows_of ss ws))
    c.into_iter-symbols.result c.into_iter-symbols.ensures.into_iter_gives c.into_iter-probabilities.result
    c.into_iter-probabilities.ensures.into_iter_gives c.rows_read.result c.rows_read.ensures.ok c.rows_read.ensures.invalid
