use Rattle.constriction_coders.proofs.CountsLemmas.{one_list}
use Rattle.constriction_coders.proofs.counts.counts_have_one_list.Goals as goal

pub returns : goal.returns
returns g c = one_list g.row.PRECISION
