use Rattle.constriction_pack.proofs.FileLemmas.{none_follows}
use Rattle.constriction_pack.proofs.laws.nothing_follows.Goals as goal

pub returns : goal.returns
returns c = none_follows
