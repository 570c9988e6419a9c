use Rattle.constriction_stored_rows.proofs.ReadLemmas.{read-more, ended-none, ended-again}
use Rattle.constriction_stored_rows.proofs.reading.WithSymbolsTakesWeights.take_weight.Goals as goal

pub next-requires : goal.next-requires
next-requires g c = c.requires.begun.2.goes

pub returns-in_default-clause-ended : goal.returns-in_default-clause-ended
returns-in_default-clause-ended g c = λ _ first weights took.
    ended-none g.Stored.TakesRows.holds g.met.Stored.TakesRows.symmetry_law took _ c.in_default.ensures.steps

pub returns-clause-took : goal.returns-clause-took
returns-clause-took g c = λ ok first weights took is.
    let next = c.in-Some.ensures.goes.on took.ends in
    read-more g.Stored.TakesRows.holds g.met.Stored.TakesRows.symmetry_law took _ _ c.in-Some.symbol _ _ is c.in-Some.ensures.steps
    (c.take_row.ensures.held ok) (c.take_row.ensures.apart ok) (next.0, next.1)

pub returns-clause-ended : goal.returns-clause-ended
returns-clause-ended g c = λ e first weights took.
    ended-again g.Stored.TakesRows.holds g.met.Stored.TakesRows.symmetry_law took _ c.in-Some.symbol c.in-Some.ensures.steps
    (c.take_row.ensures.repeated e)
