use Rattle.constriction_coders.proofs.RangePlacing.{range-place-back}
use Rattle.constriction_coders.proofs.laws.queue.range_place_comes_back.Goals as goal

pub returns : goal.returns
returns g c = λ entry. range-place-back entry g.row.PRECISION c.requires g.Source.ReadWords.tells_upcoming
