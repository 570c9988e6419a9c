use Rattle.std.proofs.Common.{Err, true, map, ap, refl, ◌∙◌, rules, inl, inr}
use Rattle.std.proofs.lemmas.Result.{IfOk-from_err, err_from_is_err_and}
use Rattle.constriction_stored_rows.proofs.FillLemmas.{accepted≢refused, table≢memory, cdf-taken}
use Rattle.constriction_stored_rows.proofs.filling.fill_cdf.Goals as goal

pub returns-clause-ok : goal.returns-clause-ok
returns-clause-ok g c =
    cdf-taken g.Weights.Iterator.next_gives _ g.Word.WholeNumber.whole g.Word.WholeNumber.BITS g.row.PRECISION c.args.infer_last
    _ _ c.wrapping_pow2.result c.in_ok-cdf.ensures.ok (c.in_ok-push_item.ensures.pushed (refl {a = true})) c.wrapping_pow2.ensures

pub weights_taken-requires-clause-precision : goal.weights_taken-requires-clause-precision
weights_taken-requires-clause-precision g c = c.requires.precision

pub weights_taken-requires-clause-none : goal.weights_taken-requires-clause-none
weights_taken-requires-clause-none g c = ap (map g.Word.WholeNumber.whole) c.requires.empty

pub weights_taken-requires-clause-goes : goal.weights_taken-requires-clause-goes
weights_taken-requires-clause-goes g c = c.requires.goes

pub weights_taken-requires-clause-ends : goal.weights_taken-requires-clause-ends
weights_taken-requires-clause-ends g c = c.requires.ends

pub returns-in_err-cdf-clause-ok : goal.returns-in_err-cdf-clause-ok
returns-in_err-cdf-clause-ok g c = IfOk-from_err c.from_residual.result _ c.from_residual.ensures.0

pub returns-in_err-cdf-clause-invalid : goal.returns-in_err-cdf-clause-invalid
returns-in_err-cdf-clause-invalid g c = λ e.
    elim (c.in_err-cdf.ensures.invalid (search rules)) [ inl bad ↦ bad.0 | inr never ↦ absurd never.1 ]

pub returns-in_err-push_item-clause-ok : goal.returns-in_err-push_item-clause-ok
returns-in_err-push_item-clause-ok g c =
    IfOk-from_err c.from_residual-in_err-push_item.result _ c.from_residual-in_err-push_item.ensures.0

pub returns-in_err-push_item-clause-invalid : goal.returns-in_err-push_item-clause-invalid
returns-in_err-push_item-clause-invalid g c =
    let refused = err_from_is_err_and c.from_residual-in_err-push_item.result c.from_residual-in_err-push_item.ensures.1 in
    λ e. absurd (table≢memory c.from_residual-in_err-push_item.result e (refused.1 ∙ ap Err refused.2))

pub returns-clause-invalid : goal.returns-clause-invalid
returns-clause-invalid g c = λ e. absurd (accepted≢refused _ _ e)
