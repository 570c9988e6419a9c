use Rattle.constriction_theorem.proofs.Making.{never-invalid, whatever-ok}
use Rattle.constriction_theorem.proofs.searches.answer_from_weights_by_search.Goals as goal

pub returns : goal.returns
returns g c = record {
  accepted = whatever-ok c.asked_by_search.result c.in_ok-model.ensures.accepted;
  answers = rw c.in_ok-model.ensures.rows at c.asked_by_search.ensures.ok;
  invalid = never-invalid c.asked_by_search.result c.asked_by_search.ensures.refused;
}
