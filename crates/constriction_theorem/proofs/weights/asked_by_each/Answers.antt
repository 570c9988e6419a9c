use Rattle.std.proofs.Common.{refl}
use Rattle.constriction_theorem.proofs.weights.asked_by_each.Goals as goal

pub asked_beside_both-requires-2-clause-contiguous : goal.asked_beside_both-requires-2-clause-contiguous
asked_beside_both-requires-2-clause-contiguous g c = rw c.requires.form (λ s. refl)

pub asked_beside_both-requires-2-clause-hashed : goal.asked_beside_both-requires-2-clause-hashed
asked_beside_both-requires-2-clause-hashed g c = rw c.requires.form c.requires.hashed

pub returns-clause-ok : goal.returns-clause-ok
returns-clause-ok g c = (
  (c.in_ok-by_search.ensures.contiguous, c.in_ok-by_search.ensures.hashed),
  c.in_ok-by_table.ensures.ok,
  (rw c.requires.form at c.in_ok-by_form.ensures.contiguous, rw c.requires.form at c.in_ok-by_form.ensures.hashed),
)
