use Rattle.constriction_pack.proofs.FrameLemmas.{content_slice}
use Rattle.constriction_pack.proofs.frame.content_of.Goals as goal

pub returns : goal.returns
returns c = λ before tag content is. content_slice before tag content _ is
