use Rattle.std.proofs.Common.{rules}
use Rattle.std.proofs.lemmas.Result.{IfOk-from_err}
use Rattle.constriction_stored_rows.proofs.FillLemmas.{accepted≢refused}
use Rattle.constriction_categorical.proofs.convert.to_generic_decoder_model.Goals as goal

pub returns-in_err-entries : goal.returns-in_err-entries
returns-in_err-entries g c = record {
  ok = IfOk-from_err c.from_residual.result _ c.from_residual.ensures.0;
  invalid = λ e. c.in_err-entries.ensures.invalid (search rules);
}

pub returns : goal.returns
returns g c = record { ok = rw c.decoder_over.ensures c.in_ok-entries.ensures.rows; invalid = λ e. absurd (accepted≢refused _ _ e) }
