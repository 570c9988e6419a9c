use Rattle.std.proofs.Common.{◌≡◌, length, map, ap, arith}
use Rattle.std.proofs.lemmas.List.{length-map}
use Rattle.constriction_stored_rows.proofs.StoredSteps.{lent-cdf}
use Rattle.constriction_stored_rows.proofs.CdfLemmas.{cdf-rows}
use Rattle.constriction_categorical.proofs.contiguous.ContiguousCategoricalEntropyModel.support_size.Goals as goal

pub returns : goal.returns
returns g c =
    let whole = g.Probability.WholeNumber.whole in
    let words = g.Cdf.SafeBuf.words_of c.args.self.now.cdf in
    let long : length c.words.result.now ≡ length words = ap length c.words.ensures in
    omega (arith, cdf-rows _ _ (map whole words) c.args.self.now.stored, length-map words whole)

pub overflow_sub-result : goal.overflow_sub-result
overflow_sub-result g c = (lent-cdf g.Probability.WholeNumber.whole _ g.row.PRECISION _ _ c.args.self.now.stored c.words.ensures).3
