use Rattle.constriction_model.specs.lemmas.Walks.{walks-rows}
use Rattle.constriction_conversions.proofs.laws.table_walks_rows.Goals as goal

pub returns : goal.returns
returns g c =
    walks-rows g.M.IterableEntropyModel.stands_for g.M.IterableEntropyModel.may_refuse g.M.Probability.WholeNumber.whole
    g.M.Probability.WholeNumber.base g.M.SymbolTable.Iterator.next_gives g.M.IterableEntropyModel.rows_left
    g.met.M.IterableEntropyModel.steps_law
