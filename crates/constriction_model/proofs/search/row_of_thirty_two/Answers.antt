use Rattle.std.proofs.Common.{arith}
use Rattle.constriction_model.proofs.Halving.{goes_on, in_turn, halved_sixteen, halved_eight, halved_four, halved_two, two_halved}
use Rattle.constriction_model.proofs.search.row_of_thirty_two.Goals as goal

pub row_of_sixteen-requires : goal.row_of_sixteen-requires
row_of_sixteen-requires g c =
    goes_on g.R.Probe _ _ _ _ _ _ _ (rw (← c.len-size.ensures) at c.requires.searching) c.first_left-first.ensures

pub returns-then-size-gt16 : goal.returns-then-size-gt16
returns-then-size-gt16 g c =
    rw (← c.len-size.ensures) (in_turn g.R.Probe _ _ _ _ _ _ _ _ _ c.first_left-first.ensures c.row_of_sixteen.ensures)

pub row_of_eight-requires : goal.row_of_eight-requires
row_of_eight-requires g c =
    goes_on g.R.Probe _ _ _ _ _ _ _ (rw (← c.len-size.ensures) at c.requires.searching) c.first_left-first-then-size-gt8.ensures

pub returns-then-size-gt8 : goal.returns-then-size-gt8
returns-then-size-gt8 g c =
    rw (← c.len-size.ensures) (in_turn g.R.Probe _ _ _ _ _ _ _ _ _ c.first_left-first-then-size-gt8.ensures c.row_of_eight.ensures)

pub row_of_four-requires : goal.row_of_four-requires
row_of_four-requires g c =
    goes_on g.R.Probe _ _ _ _ _ _ _ (rw (← c.len-size.ensures) at c.requires.searching) c.first_left-first-then-size-gt4.ensures

pub returns-then-size-gt4 : goal.returns-then-size-gt4
returns-then-size-gt4 g c =
    rw (← c.len-size.ensures) (in_turn g.R.Probe _ _ _ _ _ _ _ _ _ c.first_left-first-then-size-gt4.ensures c.row_of_four.ensures)

pub first_left-requires-clause-searching : goal.first_left-requires-clause-searching
first_left-requires-clause-searching g c =
    goes_on g.R.Probe _ _ _ _ _ _ _ (rw (← c.len-size.ensures) at c.requires.searching) c.first_left-first-then-size-gt2.ensures

pub returns-then-size-gt2 : goal.returns-then-size-gt2
returns-then-size-gt2 g c =
    rw (← c.len-size.ensures) (in_turn g.R.Probe _ _ _ _ _ _ _ _ _ c.first_left-first-then-size-gt2.ensures c.first_left.ensures)

pub first_left-first-requires-clause-searching : goal.first_left-first-requires-clause-searching
first_left-first-requires-clause-searching g c = rw (← c.len-size.ensures) at c.requires.searching

pub first_left-first-requires-clause-halved : goal.first_left-first-requires-clause-halved
first_left-first-requires-clause-halved g c = halved_sixteen c.len-size.result (omega arith) (omega arith)

pub first_left-first-requires-then-size-gt8-clause-searching : goal.first_left-first-requires-then-size-gt8-clause-searching
first_left-first-requires-then-size-gt8-clause-searching g c = rw (← c.len-size.ensures) at c.requires.searching

pub first_left-first-requires-then-size-gt8-clause-halved : goal.first_left-first-requires-then-size-gt8-clause-halved
first_left-first-requires-then-size-gt8-clause-halved g c = halved_eight c.len-size.result (omega arith) (omega arith)

pub first_left-first-requires-then-size-gt4-clause-searching : goal.first_left-first-requires-then-size-gt4-clause-searching
first_left-first-requires-then-size-gt4-clause-searching g c = rw (← c.len-size.ensures) at c.requires.searching

pub first_left-first-requires-then-size-gt4-clause-halved : goal.first_left-first-requires-then-size-gt4-clause-halved
first_left-first-requires-then-size-gt4-clause-halved g c = halved_four c.len-size.result (omega arith) (omega arith)

pub first_left-first-requires-then-size-gt2-clause-searching : goal.first_left-first-requires-then-size-gt2-clause-searching
first_left-first-requires-then-size-gt2-clause-searching g c = rw (← c.len-size.ensures) at c.requires.searching

pub first_left-first-requires-then-size-gt2-clause-halved : goal.first_left-first-requires-then-size-gt2-clause-halved
first_left-first-requires-then-size-gt2-clause-halved g c = halved_two c.len-size.result (omega arith) (omega arith)

pub first_left-requires-clause-halved : goal.first_left-requires-clause-halved
first_left-requires-clause-halved g c = two_halved

pub row_of_two-requires-clause-searching : goal.row_of_two-requires-clause-searching
row_of_two-requires-clause-searching g c = c.requires.searching

pub row_of_two-requires-clause-two : goal.row_of_two-requires-clause-two
row_of_two-requires-clause-two g c = omega arith

pub returns : goal.returns
returns g c = c.row_of_two.ensures
