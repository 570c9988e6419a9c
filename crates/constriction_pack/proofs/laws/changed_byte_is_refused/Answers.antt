use Rattle.constriction_pack.proofs.ChangeLemmas.{file_changed}
use Rattle.constriction_pack.proofs.laws.changed_byte_is_refused.Goals as goal

pub returns : goal.returns
returns c = file_changed
