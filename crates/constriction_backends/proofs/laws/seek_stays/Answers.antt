use Rattle.constriction_backends.proofs.CursorRunLaws.{seek_stays}
use Rattle.constriction_backends.proofs.laws.seek_stays.Goals as goal

pub returns : goal.returns
returns g c = seek_stays
