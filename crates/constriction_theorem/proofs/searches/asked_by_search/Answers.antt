use Rattle.std.proofs.Common.{refl}
use Rattle.constriction_theorem.proofs.searches.asked_by_search.Goals as goal

pub asked_beside_both-requires-2-clause-contiguous : goal.asked_beside_both-requires-2-clause-contiguous
asked_beside_both-requires-2-clause-contiguous g c = rw c.in_ok-decoder.ensures.rows (λ s. refl)

pub asked_beside_both-requires-2-clause-hashed : goal.asked_beside_both-requires-2-clause-hashed
asked_beside_both-requires-2-clause-hashed g c = rw c.in_ok-decoder.ensures.rows c.in_ok-hashed.ensures.entries

pub returns-clause-ok : goal.returns-clause-ok
returns-clause-ok g c = record {
  contiguous = (c.in_ok-contiguous.ensures.contiguous, c.in_ok-contiguous.ensures.hashed);
  non_contiguous = (
    rw c.in_ok-decoder.ensures.rows at c.in_ok-non_contiguous.ensures.contiguous,
    rw c.in_ok-decoder.ensures.rows at c.in_ok-non_contiguous.ensures.hashed,
  );
  same = c.in_ok-decoder.ensures.rows;
}
