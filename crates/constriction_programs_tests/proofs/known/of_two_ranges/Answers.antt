use Rattle.constriction_programs_tests.proofs.Spelled.{two_ranges_none, parsed_none}
use Rattle.constriction_programs_tests.proofs.known.of_two_ranges.Goals as goal

pub returns : goal.returns
returns c = parsed_none _ c.parse.result two_ranges_none c.parse.ensures.found
