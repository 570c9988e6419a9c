use Rattle.constriction_text.specs.private.Answering.{text_of}
use Rattle.constriction_text.specs.Text.{lines_of}
use Rattle.constriction_text.proofs.OneAnswer.{are_answers, one_text}
use Rattle.constriction_text.proofs.laws.an_input_has_one_text.Goals as goal

pub returns-clause-some : goal.returns-clause-some
returns-clause-some c input = (text_of input, are_answers (lines_of input))

pub returns-clause-alone : goal.returns-clause-alone
returns-clause-alone c input = one_text (lines_of input)
