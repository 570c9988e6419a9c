use Rattle.std.proofs.lemmas.List.{same_from_push}
use Rattle.constriction_coders.proofs.Bits.{binary-bits, binary-words}
use Rattle.constriction_coders.proofs.Closing.{words-once}
use Rattle.constriction_coders.proofs.laws.stack.binary_comes_back.Goals as goal

pub returns-clause-once : goal.returns-clause-once
returns-clause-once c = λ held words others p q. (same_from_push words others 1 1 (words-once held _ _ p.words q.words)).0

pub returns-clause-filled : goal.returns-clause-filled
returns-clause-filled c = λ held words bits valid binary. binary-bits held words bits valid binary

pub returns-clause-words : goal.returns-clause-words
returns-clause-words c = λ held bits may valid fill some. binary-words held bits may valid fill some
