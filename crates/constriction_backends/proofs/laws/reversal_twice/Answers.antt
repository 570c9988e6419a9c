use Rattle.constriction_backends.proofs.CursorRunLaws.{reversal-twice}
use Rattle.constriction_backends.proofs.laws.reversal_twice.Goals as goal

pub returns : goal.returns
returns g c = reversal-twice
