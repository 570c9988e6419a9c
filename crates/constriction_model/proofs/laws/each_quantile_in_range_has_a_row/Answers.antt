use Rattle.constriction_model.proofs.Finding.{find_each}
use Rattle.constriction_model.proofs.laws.each_quantile_in_range_has_a_row.Goals as goal

pub returns : goal.returns
returns g c = find_each
