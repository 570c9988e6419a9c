use Rattle.constriction_client.proofs.Returning.{reads-back}
use Rattle.constriction_client.proofs.laws.reads_back.Goals as goal

pub returns : goal.returns
returns g c = reads-back _ _
