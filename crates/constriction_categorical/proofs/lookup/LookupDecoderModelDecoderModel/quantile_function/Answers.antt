use Rattle.constriction_categorical.proofs.RowAnswers.{row-stood_for}
use Rattle.constriction_categorical.proofs.lookup.LookupDecoderModelDecoderModel.quantile_function.Goals as goal

pub returns-clause-row : goal.returns-clause-row
returns-clause-row g c =
    (row-stood_for g.Model.DecoderModel.stands_for g.Model.DecoderModel.may_refuse g.Model.Probability.WholeNumber.whole
    g.Model.Probability.WholeNumber.base (g.Model.EntropyModel.rows c.args.self.now.model) _ _ c.row_index-index.ensures
    c.row_with_ends.result c.row_with_ends.ensures.row).0

pub returns-clause-refused : goal.returns-clause-refused
returns-clause-refused g c =
    (row-stood_for g.Model.DecoderModel.stands_for g.Model.DecoderModel.may_refuse g.Model.Probability.WholeNumber.whole
    g.Model.Probability.WholeNumber.base (g.Model.EntropyModel.rows c.args.self.now.model) _ _ c.row_index-index.ensures
    c.row_with_ends.result c.row_with_ends.ensures.row).1
