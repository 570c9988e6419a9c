use Rattle.std.proofs.Common.{refl}
use Rattle.constriction_theorem.proofs.weights.asked_by_slots.Goals as goal

pub asked_beside_both-requires-clause-contiguous : goal.asked_beside_both-requires-clause-contiguous
asked_beside_both-requires-clause-contiguous g c = rw c.in_ok-tabled.ensures.ok (λ s. refl)

pub asked_beside_both-requires-clause-hashed : goal.asked_beside_both-requires-clause-hashed
asked_beside_both-requires-clause-hashed g c = rw c.in_ok-tabled.ensures.ok c.requires.hashed

pub returns-clause-ok : goal.returns-clause-ok
returns-clause-ok g c = (
  rw c.in_ok-tabled.ensures.ok at c.in_ok-replies.ensures.contiguous,
  rw c.in_ok-tabled.ensures.ok at c.in_ok-replies.ensures.hashed,
)
