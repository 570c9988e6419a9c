use Rattle.std.proofs.Common.{arith}
use Rattle.constriction_model.proofs.Halving.{goes_on, in_turn}
use Rattle.constriction_model.proofs.search.halve_many_four_times.Goals as goal

pub half_of_more-half_first-requires-clause-searching : goal.half_of_more-half_first-requires-clause-searching
half_of_more-half_first-requires-clause-searching g c = c.requires.searching

pub half_of_more-half_first-requires-clause-more : goal.half_of_more-half_first-requires-clause-more
half_of_more-half_first-requires-clause-more g c = omega arith

pub half_of_more-quarter_first-requires-clause-searching : goal.half_of_more-quarter_first-requires-clause-searching
half_of_more-quarter_first-requires-clause-searching g c =
    goes_on g.R.Probe _ _ _ _ _ _ _ c.requires.searching c.half_of_more-half_first.ensures.narrows

pub half_of_more-quarter_first-requires-clause-more : goal.half_of_more-quarter_first-requires-clause-more
half_of_more-quarter_first-requires-clause-more g c = omega arith

pub half_of_more-eighth_first-requires-clause-searching : goal.half_of_more-eighth_first-requires-clause-searching
half_of_more-eighth_first-requires-clause-searching g c =
    goes_on g.R.Probe _ _ _ _ _ _ _
    (goes_on g.R.Probe _ _ _ _ _ _ _ c.requires.searching c.half_of_more-half_first.ensures.narrows)
    c.half_of_more-quarter_first.ensures.narrows

pub half_of_more-eighth_first-requires-clause-more : goal.half_of_more-eighth_first-requires-clause-more
half_of_more-eighth_first-requires-clause-more g c = omega arith

pub half_of_more-requires-clause-searching : goal.half_of_more-requires-clause-searching
half_of_more-requires-clause-searching g c =
    goes_on g.R.Probe _ _ _ _ _ _ _
    (goes_on g.R.Probe _ _ _ _ _ _ _
    (goes_on g.R.Probe _ _ _ _ _ _ _ c.requires.searching c.half_of_more-half_first.ensures.narrows)
    c.half_of_more-quarter_first.ensures.narrows)
    c.half_of_more-eighth_first.ensures.narrows

pub half_of_more-requires-clause-more : goal.half_of_more-requires-clause-more
half_of_more-requires-clause-more g c = omega arith

pub returns-clause-narrows : goal.returns-clause-narrows
returns-clause-narrows g c =
    in_turn g.R.Probe _ _ _ _ _ _ _ _ _
    (in_turn g.R.Probe _ _ _ _ _ _ _ _ _
    (in_turn g.R.Probe _ _ _ _ _ _ _ _ _ c.half_of_more-half_first.ensures.narrows c.half_of_more-quarter_first.ensures.narrows)
    c.half_of_more-eighth_first.ensures.narrows)
    c.half_of_more.ensures.narrows

pub returns-clause-fewer : goal.returns-clause-fewer
returns-clause-fewer g c = omega arith

pub returns-clause-sixteenth : goal.returns-clause-sixteenth
returns-clause-sixteenth g c = omega arith
