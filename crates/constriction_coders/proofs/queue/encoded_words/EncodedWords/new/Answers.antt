use Rattle.std.proofs.Common.{arith}
use Rattle.std.proofs.lemmas.Grind.{get_or_default_zero}
use Rattle.constriction_coders.proofs.queue.encoded_words.EncodedWords.new.Goals as goal

pub returns-clause-fit : goal.returns-clause-fit
returns-clause-fit c = λ k d h. omega (arith, c.type_inv.words k, get_or_default_zero c.args.words.now k d h)
