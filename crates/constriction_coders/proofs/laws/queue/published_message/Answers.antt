use Rattle.constriction_coders.proofs.PublishedWords.{published}
use Rattle.constriction_coders.proofs.laws.queue.published_message.Goals as goal

pub returns : goal.returns
returns c = published
