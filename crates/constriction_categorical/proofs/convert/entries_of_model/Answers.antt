use Rattle.std.proofs.Common.{◌≡◌, Err, rules}
use Rattle.constriction_model.specs.declared.error.ModelError.TheVariants.{InvalidTable}
use Rattle.constriction_categorical.proofs.CollectLemmas.{walked-stored, walked-distinct, walked-repeat}
use Rattle.constriction_categorical.proofs.convert.entries_of_model.Goals as goal

pub returns-clause-stored : goal.returns-clause-stored
returns-clause-stored g c =
    let M = g.met.M.IterableEntropyModel in
    (walked-stored g.M.IterableEntropyModel.stands_for g.M.IterableEntropyModel.may_refuse g.M.Probability.WholeNumber.whole
    g.M.Probability.WholeNumber.base g.M.SymbolTable.Iterator.next_gives g.M.IterableEntropyModel.rows_left M.steps_law
    (g.M.EntropyModel.rows c.args.model) c.symbol_table.result c.symbol_table.ensures.all g.M.Symbol.PartialEq.eq
    g.M.Probability.WholeNumber.BITS g.row.PRECISION
    (M.tile_law c.args.model) c.in_ok-entries.entries.items c.in_ok-entries.ensures.ok).0

pub returns-clause-distinct : goal.returns-clause-distinct
returns-clause-distinct g c =
    let M = g.met.M.IterableEntropyModel in
    (walked-distinct g.M.IterableEntropyModel.stands_for g.M.IterableEntropyModel.may_refuse g.M.Probability.WholeNumber.whole
    g.M.Probability.WholeNumber.base g.M.SymbolTable.Iterator.next_gives g.M.IterableEntropyModel.rows_left M.steps_law
    (g.M.EntropyModel.rows c.args.model) c.symbol_table.result c.symbol_table.ensures.all g.M.Symbol.PartialEq.eq
    g.M.Probability.WholeNumber.BITS g.row.PRECISION
    (M.tile_law c.args.model) c.in_ok-entries.entries.items c.in_ok-entries.ensures.ok).0

pub returns-clause-rows : goal.returns-clause-rows
returns-clause-rows g c =
    let M = g.met.M.IterableEntropyModel in (
      (walked-stored g.M.IterableEntropyModel.stands_for g.M.IterableEntropyModel.may_refuse g.M.Probability.WholeNumber.whole
          g.M.Probability.WholeNumber.base g.M.SymbolTable.Iterator.next_gives g.M.IterableEntropyModel.rows_left M.steps_law
          (g.M.EntropyModel.rows c.args.model) c.symbol_table.result c.symbol_table.ensures.all g.M.Symbol.PartialEq.eq
          g.M.Probability.WholeNumber.BITS g.row.PRECISION
          (M.tile_law c.args.model) c.in_ok-entries.entries.items c.in_ok-entries.ensures.ok).1,
      (walked-distinct g.M.IterableEntropyModel.stands_for g.M.IterableEntropyModel.may_refuse g.M.Probability.WholeNumber.whole
          g.M.Probability.WholeNumber.base g.M.SymbolTable.Iterator.next_gives g.M.IterableEntropyModel.rows_left M.steps_law
          (g.M.EntropyModel.rows c.args.model) c.symbol_table.result c.symbol_table.ensures.all g.M.Symbol.PartialEq.eq
          g.M.Probability.WholeNumber.BITS g.row.PRECISION
          (M.tile_law c.args.model) c.in_ok-entries.entries.items c.in_ok-entries.ensures.ok).1,
    )

pub returns-in_err-entries-clause-invalid : goal.returns-in_err-entries-clause-invalid
returns-in_err-entries-clause-invalid g c = λ h.
    let M = g.met.M.IterableEntropyModel in
    let e : c.entries_walked.result ≡ Err InvalidTable = search rules in
    walked-repeat g.M.IterableEntropyModel.stands_for g.M.IterableEntropyModel.may_refuse g.M.Probability.WholeNumber.whole
    g.M.Probability.WholeNumber.base g.M.SymbolTable.Iterator.next_gives g.M.IterableEntropyModel.rows_left M.steps_law
    (g.M.EntropyModel.rows c.args.model) c.symbol_table.result c.symbol_table.ensures.all g.M.Symbol.PartialEq.eq
    (c.entries_walked.ensures.invalid e)
