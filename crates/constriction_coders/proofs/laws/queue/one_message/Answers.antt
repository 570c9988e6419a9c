use Rattle.constriction_coders.proofs.Once.{message-once}
use Rattle.constriction_coders.proofs.laws.queue.one_message.Goals as goal

pub returns : goal.returns
returns g c = λ entry. message-once entry g.row.PRECISION
