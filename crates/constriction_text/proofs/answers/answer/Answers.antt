use Rattle.constriction_text.proofs.OneAnswer.{is_answer_alone}
use Rattle.constriction_text.proofs.answers.answer.Goals as goal

pub returns : goal.returns
returns c = is_answer_alone c.args.line.now _ _ c.new-text.ensures.bytes c.in_ok-push_answer.ensures
