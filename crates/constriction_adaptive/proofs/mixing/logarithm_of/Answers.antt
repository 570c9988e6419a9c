use Rattle.constriction_adaptive.proofs.NumberLemmas.{logarithm-below}
use Rattle.constriction_adaptive.proofs.mixing.logarithm_of.Goals as goal

pub returns-clause-below : goal.returns-clause-below
returns-clause-below c = logarithm-below c.args.x c.requires.some c.requires.below
