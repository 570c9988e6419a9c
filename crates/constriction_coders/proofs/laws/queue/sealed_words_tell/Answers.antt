use Rattle.constriction_coders.proofs.Sealing.{sealed-tell}
use Rattle.constriction_coders.proofs.laws.queue.sealed_words_tell.Goals as goal

pub returns : goal.returns
returns c = sealed-tell
