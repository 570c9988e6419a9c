use Rattle.std.proofs.Common.{arith, refl}
use Rattle.constriction_client_tests.proofs.known_theorem.by_weights.Goals as goal

-- the weights are those of a uniform model of three symbols
pub returns-clause-divides : goal.returns-clause-divides
returns-clause-divides c = c.in_ok-made.ensures.answers.divides.1 (3, omega arith, rw c.in_ok-given.ensures refl)

pub returns-clause-questions : goal.returns-clause-questions
returns-clause-questions c = rw (c.in_ok-given.ensures, c.queries.ensures) at c.in_ok-made.ensures.answers.questions
