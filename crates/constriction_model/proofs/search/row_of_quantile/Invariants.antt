use Rattle.std.proofs.Common.{length}
use Rattle.constriction_model.specs.private.Searching.{Narrows}
use Rattle.constriction_model.proofs.search.row_of_quantile.Given as goal

abbrev pub invariant-rows : goal.invariant-rows
invariant-rows g l = Narrows g.R.Probe l.fn.rows l.q (length (g.R.Probe.cumulatives l.fn.rows)) l.rows l.first l.size

abbrev pub decreases-rows : goal.decreases-rows
decreases-rows g l = l.size
