use Rattle.constriction_programs_tests.proofs.Spelled.{two_spaces_none, parsed_none}
use Rattle.constriction_programs_tests.proofs.known.of_two_spaces.Goals as goal

pub returns : goal.returns
returns c = parsed_none _ c.parse.result two_spaces_none c.parse.ensures.found
