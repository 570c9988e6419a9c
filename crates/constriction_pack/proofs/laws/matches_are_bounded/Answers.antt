use Rattle.std.proofs.Common.{[], arith}
use Rattle.constriction_matches.specs.Matches.{first_recents, block_state}
use Rattle.constriction_pack.proofs.MatchedLemmas.{parts_bound}
use Rattle.constriction_pack.proofs.laws.matches_are_bounded.Goals as goal

pub returns : goal.returns
returns c = λ bytes content p.
    omega (arith, parts_bound (block_state [] first_recents) (block_state bytes p.recents) content p.parts)
