use Rattle.constriction_programs_tests.proofs.Spelled.{many_digits_none, parsed_none}
use Rattle.constriction_programs_tests.proofs.known.of_many_digits.Goals as goal

pub returns : goal.returns
returns c = parsed_none _ c.parse.result many_digits_none c.parse.ensures.found
