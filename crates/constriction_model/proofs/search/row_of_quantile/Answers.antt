use Rattle.std.proofs.Common.{arith}
use Rattle.constriction_model.proofs.Halving.{goes_on, in_turn, may_begin, found, counted_all}
use Rattle.constriction_model.proofs.search.row_of_quantile.Goals as goal

pub row_of_two-requires-clause-searching : goal.row_of_two-requires-clause-searching
row_of_two-requires-clause-searching g c =
    may_begin g.R.Probe _ _ c.requires.searchable (omega (arith, c.len-all.ensures)) c.requires.room

pub row_of_two-requires-clause-two : goal.row_of_two-requires-clause-two
row_of_two-requires-clause-two g c = omega arith

pub returns-then-all-le2-clause-found : goal.returns-then-all-le2-clause-found
returns-then-all-le2-clause-found g c = found g.R.Probe _ _ _ _ _ c.row_of_two.ensures (omega arith) c.requires.searchable

pub returns-then-all-le2-clause-same : goal.returns-then-all-le2-clause-same
returns-then-all-le2-clause-same g c = c.row_of_two.ensures.same

pub returns-then-all-le2-clause-counted : goal.returns-then-all-le2-clause-counted
returns-then-all-le2-clause-counted g c = counted_all g.R.Probe _ _ _ _ _ c.row_of_two.ensures (omega arith)

pub halve_four_times-near-requires : goal.halve_four_times-near-requires
halve_four_times-near-requires g c =
    record {
      searching =
          rw c.len-all.ensures (may_begin g.R.Probe _ _ c.requires.searchable (omega (arith, c.len-all.ensures)) c.requires.room);
    }

pub halve_four_times-first-requires : goal.halve_four_times-first-requires
halve_four_times-first-requires g c =
    record {
      searching = goes_on g.R.Probe _ _ _ _ _ _ _
          (may_begin g.R.Probe _ _ c.requires.searchable (omega (arith, c.len-all.ensures)) c.requires.room)
          (rw c.len-all.ensures at c.halve_four_times-near.ensures.narrows);
    }

pub rows-init : goal.rows-init
rows-init g c =
    in_turn g.R.Probe _ _ _ _ _ _ _ _ _ (rw c.len-all.ensures at c.halve_four_times-near.ensures.narrows)
    c.halve_four_times-first.ensures.narrows

pub sixteenth-next-requires : goal.sixteenth-next-requires
sixteenth-next-requires g c =
    record {
      searching = goes_on g.R.Probe _ _ _ _ _ _ _
          (may_begin g.R.Probe _ _ c.requires.searchable (omega (arith, c.len-all.ensures)) c.requires.room) c.rows.invariant;
    }

pub rows-smaller : goal.rows-smaller
rows-smaller g c = c.sixteenth-next.ensures.fewer c.rows-test.true

pub rows-preserved : goal.rows-preserved
rows-preserved g c = in_turn g.R.Probe _ _ _ _ _ _ _ _ _ c.rows.invariant c.sixteenth-next.ensures.narrows

pub returns-clause-found : goal.returns-clause-found
returns-clause-found g c = found g.R.Probe _ _ _ _ _ c.rows.invariant c.rows-test.false c.requires.searchable

pub returns-clause-same : goal.returns-clause-same
returns-clause-same g c = c.rows.invariant.same

pub returns-clause-counted : goal.returns-clause-counted
returns-clause-counted g c = counted_all g.R.Probe _ _ _ _ _ c.rows.invariant c.rows-test.false
