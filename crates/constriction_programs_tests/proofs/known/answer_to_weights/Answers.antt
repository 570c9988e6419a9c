use Rattle.std.specs.String.{string_bytes}
use Rattle.constriction_programs_tests.proofs.Spelled.{answered, weights_answered}
use Rattle.constriction_programs_tests.proofs.known.answer_to_weights.Goals as goal

pub returns : goal.returns
returns c = answered string_bytes _ _ c.answer.result weights_answered (c.a_line_has_one_answer.ensures.alone _) c.answer.ensures
