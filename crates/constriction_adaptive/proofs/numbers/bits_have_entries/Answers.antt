use Rattle.constriction_adaptive.proofs.Rows.{some-entry}
use Rattle.constriction_adaptive.proofs.numbers.bits_have_entries.Goals as goal

pub returns : goal.returns
returns g c = λ bit. some-entry c.model-model.result.now.zero _ bit c.model-model.ensures
