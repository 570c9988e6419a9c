use Rattle.constriction_model.specs.lemmas.Walks.{row-count}
use Rattle.constriction_model.proofs.laws.uniform_row_count.Goals as goal

pub returns : goal.returns
returns c = row-count
