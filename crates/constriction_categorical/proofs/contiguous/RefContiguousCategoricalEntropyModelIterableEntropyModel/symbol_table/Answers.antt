use Rattle.constriction_stored_rows.proofs.StoredSteps.{all-stored, lent-cdf}
use Rattle.constriction_model.proofs.StepLemmas.{same-most}
use Rattle.constriction_categorical.proofs.contiguous.RefContiguousCategoricalEntropyModelIterableEntropyModel.symbol_table.Goals as goal

pub returns : goal.returns
returns g c =
    let all = all-stored g.Probability.WholeNumber.whole _ g.row.PRECISION _ _ c.args.self.now.stored c.words-cdf.ensures in
    record { all = all; callable = tt; ends = (tt, same-most _ _ all) }

pub overflow_sub-result : goal.overflow_sub-result
overflow_sub-result g c = (lent-cdf g.Probability.WholeNumber.whole _ g.row.PRECISION _ _ c.args.self.now.stored c.words-cdf.ensures).3

pub invariant_of-result : goal.invariant_of-result
invariant_of-result g c =
    let table = lent-cdf g.Probability.WholeNumber.whole _ g.row.PRECISION _ _ c.args.self.now.stored c.words-cdf.ensures in
    record { narrow = c.args.self.now.precise.fits; stored = table.0; in_order = table.1; in_bounds = table.2 }
