use Rattle.std.specs.String.{string_bytes}
use Rattle.constriction_programs_tests.proofs.Spelled.{answered, few_answered}
use Rattle.constriction_programs_tests.proofs.known.answer_to_few_weights.Goals as goal

pub returns : goal.returns
returns c = answered string_bytes _ _ c.answer.result few_answered (c.a_line_has_one_answer.ensures.alone _) c.answer.ensures
