use Rattle.constriction_pack.proofs.FileLemmas.{one_content}
use Rattle.constriction_pack.proofs.laws.packed_once.Goals as goal

pub returns : goal.returns
returns c = one_content
