use Rattle.constriction_text.proofs.OneAnswer.{one_request}
use Rattle.constriction_text.proofs.laws.a_line_spells_at_most_one_request.Goals as goal

pub returns : goal.returns
returns c = one_request
