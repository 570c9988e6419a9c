use Rattle.constriction_theorem.proofs.weights.answers_of.Goals as goal

pub returns-clause-ok : goal.returns-clause-ok
returns-clause-ok g c = record {
  divides = c.in_ok-dividing.ensures.divides;
  dividing = c.in_ok-dividing.ensures.dividing;
  searching = c.in_ok-searching.ensures.ok.0;
  tabled = c.in_ok-searching.ensures.ok.1;
  converted = c.in_ok-searching.ensures.ok.2;
  kind = c.in_ok-form.ensures.kind;
  same = c.in_ok-form.ensures.rows;
  questions = c.in_ok-questions.ensures.questions;
  few = c.in_ok-questions.ensures.few;
}
