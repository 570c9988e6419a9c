-- The items taken so far were written.
use Rattle.constriction_sources.specs.Sink.{Writes}
use Rattle.constriction_sources.proofs.write.WriteWords.extend_from_iter.Given as goal

abbrev pub invariant-loop-word : goal.invariant-loop-word
invariant-loop-word g l = g.Self.WriteWords.can_write l.self × Writes g.Self.WriteWords.write_gives l.initial.self l.yielded l.self
