use Rattle.constriction_theorem.proofs.weights.asked_by_dividing.Goals as goal

pub asked_by_division-requires-clause-some : goal.asked_by_division-requires-clause-some
asked_by_division-requires-clause-some g c = (rw c.in-Some.is at c.requires.range).0

pub asked_by_division-requires-clause-within : goal.asked_by_division-requires-clause-within
asked_by_division-requires-clause-within g c = (rw c.in-Some.is at c.requires.range).1

pub asked_by_division-requires-clause-hashed : goal.asked_by_division-requires-clause-hashed
asked_by_division-requires-clause-hashed g c =
    let rows = (rw c.in-Some.is at c.requires.range).2 in
    rw rows at c.requires.hashed

pub returns-in_ok-replies-in-Some-clause-dividing : goal.returns-in_ok-replies-in-Some-clause-dividing
returns-in_ok-replies-in-Some-clause-dividing g c =
    let rows = (rw c.in-Some.is at c.requires.range).2 in
    (rw rows c.in_ok-replies-in-Some.ensures.contiguous, rw rows c.in_ok-replies-in-Some.ensures.hashed)
