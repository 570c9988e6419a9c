use Rattle.std.proofs.Common.{◌-◌, length, ap, arith}
use Rattle.constriction_categorical.specs.ModelRows.{contiguous_model_rows}
use Rattle.constriction_model.specs.Probe.{digits}
use Rattle.constriction_model.proofs.Digits.{digits_grow}
use Rattle.constriction_theorem.proofs.Questions.{all_probed, if_below}
use Rattle.constriction_theorem.proofs.counted.questions_for_query.Goals as goal

pub returns-else-not-is_quantile-clause-asked : goal.returns-else-not-is_quantile-clause-asked
returns-else-not-is_quantile-clause-asked g c =
    let probe = c.quantile_probe.ensures in
    let rows = contiguous_model_rows c.args.model.now in
    let size = all_probed (length rows) _ _ (λ i h. (probe.exactly i (record { symbol = 0; left = 0; weight = 0 }) h).0 tt) probe.within in
    let counted = ap (λ n. digits (n - 1)) size in
    rw c.in-OfQuantile.is (if_below _ _ _ _ _ (c.is_quantile.ensures.0 c.if-not-is_quantile.false)
    (omega (arith, c.asked.ensures, c.row_of_quantile.ensures.counted, probe.fresh, counted)))

pub returns-else-not-is_quantile-clause-few : goal.returns-else-not-is_quantile-clause-few
returns-else-not-is_quantile-clause-few g c =
    let probe = c.quantile_probe.ensures in
    let rows = length (contiguous_model_rows c.args.model.now) in
    let grow = digits_grow (rows - 1) rows (omega arith) in
    omega (arith, c.asked.ensures, c.row_of_quantile.ensures.counted, probe.fresh, probe.few, grow)
