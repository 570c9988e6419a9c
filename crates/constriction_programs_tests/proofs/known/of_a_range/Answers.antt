use Rattle.constriction_programs_tests.proofs.Spelled.{parsed, range_spelled}
use Rattle.constriction_programs_tests.proofs.known.of_a_range.Goals as goal

pub returns : goal.returns
returns c = parsed _ _ c.parse.result range_spelled (c.a_line_spells_at_most_one_request.ensures _) c.parse.ensures.found
    c.parse.ensures.none
