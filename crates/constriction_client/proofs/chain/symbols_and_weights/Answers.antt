use Rattle.constriction_client.proofs.Rebuilding.{lists-of-table}
use Rattle.constriction_client.proofs.chain.symbols_and_weights.Goals as goal

pub returns-clause-accepted : goal.returns-clause-accepted
returns-clause-accepted g c =
    (lists-of-table g.M.Symbol.PartialEq.eq g.met.M.Symbol.Eq.laws g.M.IterableEntropyModel.stands_for c.requires.clones
    g.M.IterableEntropyModel.may_refuse g.M.Probability.WholeNumber.BITS g.row.PRECISION g.M.Probability.WholeNumber.whole
    g.M.Probability.WholeNumber.base g.M.SymbolTable.Iterator.next_gives c.symbol_table.result _ (g.M.EntropyModel.rows c.args.model)
    c.in_ok-symbols.symbols.items c.in_ok-symbols.weights.items c.symbol_table.ensures.all
    (g.met.M.IterableEntropyModel.tile_law c.args.model) c.requires.distinct
    (c.table_gives_all_rows.ensures c.symbol_table.result) c.in_ok-symbols.ensures).0

pub returns-clause-rows : goal.returns-clause-rows
returns-clause-rows g c =
    (lists-of-table g.M.Symbol.PartialEq.eq g.met.M.Symbol.Eq.laws g.M.IterableEntropyModel.stands_for c.requires.clones
    g.M.IterableEntropyModel.may_refuse g.M.Probability.WholeNumber.BITS g.row.PRECISION g.M.Probability.WholeNumber.whole
    g.M.Probability.WholeNumber.base g.M.SymbolTable.Iterator.next_gives c.symbol_table.result _ (g.M.EntropyModel.rows c.args.model)
    c.in_ok-symbols.symbols.items c.in_ok-symbols.weights.items c.symbol_table.ensures.all
    (g.met.M.IterableEntropyModel.tile_law c.args.model) c.requires.distinct
    (c.table_gives_all_rows.ensures c.symbol_table.result) c.in_ok-symbols.ensures).1
