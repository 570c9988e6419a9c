use Rattle.std.proofs.Common.{arith}
use Rattle.constriction_model.proofs.Halving.{may_begin, found}
use Rattle.constriction_model.proofs.search.row_in_probe.Goals as goal

pub row_of_thirty_two-requires-clause-searching : goal.row_of_thirty_two-requires-clause-searching
row_of_thirty_two-requires-clause-searching g c =
    may_begin g.R.Probe _ _ c.requires.searchable (omega (arith, c.len.ensures)) c.requires.room

pub row_of_thirty_two-requires-clause-few : goal.row_of_thirty_two-requires-clause-few
row_of_thirty_two-requires-clause-few g c = omega arith

pub returns-then-len : goal.returns-then-len
returns-then-len g c = found g.R.Probe _ _ _ _ _ c.row_of_thirty_two.ensures (omega arith) c.requires.searchable

pub row_of_quantile-requires-clause-searchable : goal.row_of_quantile-requires-clause-searchable
row_of_quantile-requires-clause-searchable g c = c.requires.searchable

pub row_of_quantile-requires-clause-room : goal.row_of_quantile-requires-clause-room
row_of_quantile-requires-clause-room g c = c.requires.room

pub returns : goal.returns
returns g c = c.row_of_quantile.ensures.found
