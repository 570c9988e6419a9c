use Rattle.std.proofs.Common.{◌≡◌, ◌++◌, ℕ, List, length}
use Rattle.std.specs.Io.KnownBytes.{Appends}
use Rattle.constriction_io.proofs.writing.write_whole.Given as goal

-- what was written and the rest are the bytes
abbrev pub invariant-loop-rest : goal.invariant-loop-rest
invariant-loop-rest g l = (written : List ℕ)
    × Appends (g.W.Write.contents l.fn.writer) (g.W.Write.contents l.writer) written
    × (written ++ l.rest ≡ l.bytes)

abbrev pub decreases-loop-rest : goal.decreases-loop-rest
decreases-loop-rest g l = length l.rest
