use Rattle.constriction_conversions.proofs.EndLemmas.{walks-from-both-ends}
use Rattle.constriction_conversions.proofs.laws.table_walks_rows_from_both_ends.Goals as goal

pub returns : goal.returns
returns g c =
    walks-from-both-ends g.M.IterableEntropyModel.stands_for g.M.IterableEntropyModel.may_refuse g.M.Probability.WholeNumber.whole
    g.M.Probability.WholeNumber.base g.M.SymbolTable.Iterator.next_gives g.M.SymbolTable.DoubleEndedIterator.next_back_gives
    g.M.IterableEntropyModel.rows_left g.met.M.IterableEntropyModel.steps_law c.requires
