use Rattle.constriction_model.specs.lemmas.Walks.{answers-are-in-table}
use Rattle.constriction_conversions.proofs.laws.answers_are_in_table.Goals as goal

pub returns : goal.returns
returns g c =
    answers-are-in-table g.M.IterableEntropyModel.stands_for g.M.IterableEntropyModel.may_refuse g.M.Probability.WholeNumber.whole
    g.M.Probability.WholeNumber.base g.M.SymbolTable.Iterator.next_gives g.M.IterableEntropyModel.rows_left
    g.met.M.IterableEntropyModel.steps_law g.M.Probability.WholeNumber.BITS g.row.PRECISION g.M.EntropyModel.rows
    g.met.M.DecoderModel.tile_law g.met.M.Probability.WholeNumber.same_law
    g.met.M.Probability.WholeNumber.same_weight_law
