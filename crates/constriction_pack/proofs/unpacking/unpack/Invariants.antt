use Rattle.constriction_pack.proofs.FileLemmas.{IsReadSoFar}
use Rattle.constriction_pack.proofs.unpacking.unpack.Given as goal

-- the beginning of a packed file was read, and its bytes were written
abbrev pub invariant-loop : goal.invariant-loop
invariant-loop g l =
    IsReadSoFar l.format (g.R.Read.remaining l.fn.reader)
    (g.W.Write.contents l.fn.writer) l.fn.limit l.before l.left
    (g.R.Read.remaining l.reader) (g.W.Write.contents l.writer)
