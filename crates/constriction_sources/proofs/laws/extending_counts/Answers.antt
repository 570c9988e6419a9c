use Rattle.constriction_sources.proofs.Places.{extending_counted}
use Rattle.constriction_sources.proofs.laws.extending_counts.Goals as goal

pub returns-clause-counted : goal.returns-clause-counted
returns-clause-counted g c =
    extending_counted g.Sink.WriteWords.write_gives g.Sink.BoundedWriteWords.free_places g.met.Sink.BoundedWriteWords.counts_writes
    g.Words.Iterator.next_gives _ _ _ _ c.extend_from_iter.ensures.gives
