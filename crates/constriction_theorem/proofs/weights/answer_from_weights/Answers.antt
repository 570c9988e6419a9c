use Rattle.std.proofs.lemmas.Result.{err_from_is_err_and}
use Rattle.constriction_theorem.proofs.Making.{handed-on, never-invalid, whatever-ok}
use Rattle.constriction_theorem.proofs.weights.answer_from_weights.Goals as goal

pub returns : goal.returns
returns g c = record {
  accepted = whatever-ok c.answers_of.result c.in_ok-model.ensures.accepted;
  answers = rw c.in_ok-model.ensures.rows at c.answers_of.ensures.ok;
  invalid = never-invalid c.answers_of.result c.answers_of.ensures.refused;
}

pub returns-in_err-model : goal.returns-in_err-model
returns-in_err-model g c =
    let error = err_from_is_err_and c.from_residual.result c.from_residual.ensures.1 in
    handed-on c.contiguous_from.result _ c.in_err-model.field-0.0 _ c.in_err-model.was error.1 error.2 c.contiguous_from.ensures.invalid
