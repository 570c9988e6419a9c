use Rattle.constriction_model.proofs.Finding.{find_iff}
use Rattle.constriction_model.proofs.laws.the_row_found_is_the_row_of_the_quantile.Goals as goal

pub returns : goal.returns
returns g c = find_iff
