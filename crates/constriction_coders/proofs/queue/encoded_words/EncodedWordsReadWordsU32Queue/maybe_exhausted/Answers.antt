use Rattle.constriction_coders.proofs.Sealing.{some-left}
use Rattle.constriction_coders.proofs.queue.encoded_words.EncodedWordsReadWordsU32Queue.maybe_exhausted.Goals as goal

pub returns : goal.returns
returns c = some-left _ _ c.maybe_exhausted.result c.maybe_exhausted.ensures
