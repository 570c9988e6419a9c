use Rattle.constriction_client.proofs.Returning.{reads-back-reversed}
use Rattle.constriction_client.proofs.laws.reads_back_reversed.Goals as goal

pub returns : goal.returns
returns g c = reads-back-reversed _ _
