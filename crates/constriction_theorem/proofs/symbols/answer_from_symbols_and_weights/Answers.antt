use Rattle.std.proofs.Common.{rules}
use Rattle.constriction_theorem.proofs.Making.{never-invalid, refused-decided, whatever-ok}
use Rattle.constriction_theorem.proofs.symbols.answer_from_symbols_and_weights.Goals as goal

pub returns-in_err-encoder : goal.returns-in_err-encoder
returns-in_err-encoder g c = refused-decided _ (search rules)

pub returns : goal.returns
returns g c = record {
  accepted = whatever-ok c.answer_by_form.result c.in_ok-searching.ensures.accepted;
  answers = rw c.in_ok-searching.ensures.rows at c.answer_by_form.ensures.answers;
  invalid = never-invalid c.answer_by_form.result c.answer_by_form.ensures.refused;
}
