use Rattle.constriction_model.proofs.Halving.{goes_on, in_turn, four_halved, two_halved}
use Rattle.constriction_model.proofs.search.row_of_four.Goals as goal

pub first_left-half-requires-clause-searching : goal.first_left-half-requires-clause-searching
first_left-half-requires-clause-searching g c = c.requires

pub first_left-half-requires-clause-halved : goal.first_left-half-requires-clause-halved
first_left-half-requires-clause-halved g c = four_halved

pub first_left-requires-clause-searching : goal.first_left-requires-clause-searching
first_left-requires-clause-searching g c = goes_on g.R.Probe _ _ _ _ _ _ _ c.requires c.first_left-half.ensures

pub first_left-requires-clause-halved : goal.first_left-requires-clause-halved
first_left-requires-clause-halved g c = two_halved

pub returns : goal.returns
returns g c = in_turn g.R.Probe _ _ _ _ _ _ _ _ _ c.first_left-half.ensures c.first_left.ensures
