use Rattle.std.specs.Io.KnownBytes.{Keeps}
use Rattle.constriction_io.proofs.writing.write_turn.Given as goal

-- an interrupted write leaves no byte
abbrev pub invariant-loop : goal.invariant-loop
invariant-loop g l = Keeps (g.W.Write.contents l.fn.writer) (g.W.Write.contents l.writer)
