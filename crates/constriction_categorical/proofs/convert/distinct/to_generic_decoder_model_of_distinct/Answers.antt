use Rattle.std.proofs.Common.{rules}
use Rattle.std.proofs.lemmas.Result.{IfOk-from_err}
use Rattle.constriction_categorical.proofs.convert.distinct.to_generic_decoder_model_of_distinct.Goals as goal

pub returns-in_err-entries : goal.returns-in_err-entries
returns-in_err-entries g c =
    record { ok = IfOk-from_err c.from_residual.result _ c.from_residual.ensures.0; refused = search rules }

pub returns : goal.returns
returns g c = record { ok = rw c.decoder_over.ensures c.in_ok-entries.ensures.rows; refused = tt }
