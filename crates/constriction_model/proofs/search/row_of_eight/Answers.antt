use Rattle.constriction_model.proofs.Halving.{goes_on, in_turn, eight_halved}
use Rattle.constriction_model.proofs.search.row_of_eight.Goals as goal

pub first_left-half-requires-clause-searching : goal.first_left-half-requires-clause-searching
first_left-half-requires-clause-searching g c = c.requires

pub first_left-half-requires-clause-halved : goal.first_left-half-requires-clause-halved
first_left-half-requires-clause-halved g c = eight_halved

pub row_of_four-requires : goal.row_of_four-requires
row_of_four-requires g c = goes_on g.R.Probe _ _ _ _ _ _ _ c.requires c.first_left-half.ensures

pub returns : goal.returns
returns g c = in_turn g.R.Probe _ _ _ _ _ _ _ _ _ c.first_left-half.ensures c.row_of_four.ensures
