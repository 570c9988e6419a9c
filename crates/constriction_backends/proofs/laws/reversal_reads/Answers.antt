use Rattle.constriction_backends.proofs.CursorRunLaws.{reversal-reads}
use Rattle.constriction_backends.proofs.laws.reversal_reads.Goals as goal

pub returns-clause-stack : goal.returns-clause-stack
returns-clause-stack g c = λ s r t. ((reversal-reads s).0 r t).0

pub returns-clause-queue : goal.returns-clause-queue
returns-clause-queue g c = λ s r t. ((reversal-reads s).0 r t).1

pub returns-clause-tells : goal.returns-clause-tells
returns-clause-tells g c = λ s.
    let reads = reversal-reads {E = Unit {0}} s in
    (reads.1, reads.2)
