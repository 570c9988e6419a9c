use Rattle.std.proofs.Common.{length, ◌≡◌}
use Rattle.std.specs.Io.KnownBytes.{Keeps}
use Rattle.constriction_io.proofs.reading.read_turn.Given as goal

-- an interrupted read takes no byte
abbrev pub invariant-loop : goal.invariant-loop
invariant-loop g l = record {
  kept : Keeps (g.R.Read.remaining l.fn.reader) (g.R.Read.remaining l.reader);
  room : length l.chunk ≡ length l.fn.chunk;
}
