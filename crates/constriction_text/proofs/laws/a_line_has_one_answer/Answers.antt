use Rattle.constriction_text.specs.private.Answering.{answer_to}
use Rattle.constriction_text.proofs.OneAnswer.{is_answer, one_answer}
use Rattle.constriction_text.proofs.laws.a_line_has_one_answer.Goals as goal

pub returns-clause-some : goal.returns-clause-some
returns-clause-some c line = (answer_to line, is_answer line)

pub returns-clause-alone : goal.returns-clause-alone
returns-clause-alone c = one_answer
