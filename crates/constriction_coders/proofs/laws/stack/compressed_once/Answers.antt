use Rattle.constriction_coders.specs.lemmas.Stack.{compressed-once}
use Rattle.constriction_coders.proofs.laws.stack.compressed_once.Goals as goal

pub returns : goal.returns
returns c = λ a b all p q. compressed-once a b all p q
