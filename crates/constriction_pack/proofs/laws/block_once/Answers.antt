use Rattle.constriction_pack.proofs.FrameLemmas.{content_once}
use Rattle.constriction_pack.proofs.laws.block_once.Goals as goal

pub returns : goal.returns
returns c = content_once
