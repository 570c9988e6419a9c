use Rattle.constriction_categorical.proofs.CollectLemmas.{walked-apart, walked-stored, walked-distinct}
use Rattle.constriction_categorical.proofs.convert.distinct.uncompared_entries_of_model.Goals as goal

pub returns-clause-stored : goal.returns-clause-stored
returns-clause-stored g c =
    let M = g.met.M.IterableEntropyModel in
    let good = walked-apart g.M.IterableEntropyModel.stands_for g.M.IterableEntropyModel.may_refuse g.M.Probability.WholeNumber.whole
    g.M.Probability.WholeNumber.base g.M.SymbolTable.Iterator.next_gives g.M.IterableEntropyModel.rows_left M.steps_law
    (g.M.EntropyModel.rows c.args.model) c.symbol_table.result c.symbol_table.ensures.all g.M.Symbol.PartialEq.eq
    g.met.M.Symbol.Eq.laws c.requires.clones c.requires.differ c.in_ok-entries.entries.items c.in_ok-entries.ensures in
    (walked-stored g.M.IterableEntropyModel.stands_for g.M.IterableEntropyModel.may_refuse g.M.Probability.WholeNumber.whole
    g.M.Probability.WholeNumber.base g.M.SymbolTable.Iterator.next_gives g.M.IterableEntropyModel.rows_left M.steps_law
    (g.M.EntropyModel.rows c.args.model) c.symbol_table.result c.symbol_table.ensures.all g.M.Symbol.PartialEq.eq
    g.M.Probability.WholeNumber.BITS g.row.PRECISION
    (M.tile_law c.args.model) c.in_ok-entries.entries.items good).0

pub returns-clause-distinct : goal.returns-clause-distinct
returns-clause-distinct g c =
    let M = g.met.M.IterableEntropyModel in
    let good = walked-apart g.M.IterableEntropyModel.stands_for g.M.IterableEntropyModel.may_refuse g.M.Probability.WholeNumber.whole
    g.M.Probability.WholeNumber.base g.M.SymbolTable.Iterator.next_gives g.M.IterableEntropyModel.rows_left M.steps_law
    (g.M.EntropyModel.rows c.args.model) c.symbol_table.result c.symbol_table.ensures.all g.M.Symbol.PartialEq.eq
    g.met.M.Symbol.Eq.laws c.requires.clones c.requires.differ c.in_ok-entries.entries.items c.in_ok-entries.ensures in
    (walked-distinct g.M.IterableEntropyModel.stands_for g.M.IterableEntropyModel.may_refuse g.M.Probability.WholeNumber.whole
    g.M.Probability.WholeNumber.base g.M.SymbolTable.Iterator.next_gives g.M.IterableEntropyModel.rows_left M.steps_law
    (g.M.EntropyModel.rows c.args.model) c.symbol_table.result c.symbol_table.ensures.all g.M.Symbol.PartialEq.eq
    g.M.Probability.WholeNumber.BITS g.row.PRECISION
    (M.tile_law c.args.model) c.in_ok-entries.entries.items good).0

pub returns-clause-rows : goal.returns-clause-rows
returns-clause-rows g c =
    let M = g.met.M.IterableEntropyModel in
    let good = walked-apart g.M.IterableEntropyModel.stands_for g.M.IterableEntropyModel.may_refuse g.M.Probability.WholeNumber.whole
    g.M.Probability.WholeNumber.base g.M.SymbolTable.Iterator.next_gives g.M.IterableEntropyModel.rows_left M.steps_law
    (g.M.EntropyModel.rows c.args.model) c.symbol_table.result c.symbol_table.ensures.all g.M.Symbol.PartialEq.eq
    g.met.M.Symbol.Eq.laws c.requires.clones c.requires.differ c.in_ok-entries.entries.items c.in_ok-entries.ensures in (
      (walked-stored g.M.IterableEntropyModel.stands_for g.M.IterableEntropyModel.may_refuse g.M.Probability.WholeNumber.whole
          g.M.Probability.WholeNumber.base g.M.SymbolTable.Iterator.next_gives g.M.IterableEntropyModel.rows_left M.steps_law
          (g.M.EntropyModel.rows c.args.model) c.symbol_table.result c.symbol_table.ensures.all g.M.Symbol.PartialEq.eq
          g.M.Probability.WholeNumber.BITS g.row.PRECISION
          (M.tile_law c.args.model) c.in_ok-entries.entries.items good).1,
      (walked-distinct g.M.IterableEntropyModel.stands_for g.M.IterableEntropyModel.may_refuse g.M.Probability.WholeNumber.whole
          g.M.Probability.WholeNumber.base g.M.SymbolTable.Iterator.next_gives g.M.IterableEntropyModel.rows_left M.steps_law
          (g.M.EntropyModel.rows c.args.model) c.symbol_table.result c.symbol_table.ensures.all g.M.Symbol.PartialEq.eq
          g.M.Probability.WholeNumber.BITS g.row.PRECISION
          (M.tile_law c.args.model) c.in_ok-entries.entries.items good).1,
    )
