use Rattle.constriction_adaptive.proofs.ReadOnce.{read-once}
use Rattle.constriction_adaptive.proofs.numbers.numbers_are_read_once.Goals as goal

pub returns : goal.returns
returns g c = read-once g.P.Predictor.rows g.P.Predictor.next
