use Rattle.constriction_pack.proofs.FileLemmas.{IsUnderWay}
use Rattle.constriction_pack.proofs.packing.pack.Given as goal

-- the beginning of a packed file of what was read was written
abbrev pub invariant-loop : goal.invariant-loop
invariant-loop g l =
    IsUnderWay (g.R.Read.remaining l.fn.reader)
    (g.W.Write.contents l.fn.writer) l.before l.buffer.items
    (g.R.Read.remaining l.reader) (g.W.Write.contents l.writer)
