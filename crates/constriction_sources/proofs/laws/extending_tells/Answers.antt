use Rattle.constriction_sources.specs.lemmas.Sink.{extending_tells}
use Rattle.constriction_sources.proofs.laws.extending_tells.Goals as goal

pub returns : goal.returns
returns g c = extending_tells g.Sink.WriteWords.write_gives g.Sink.WriteWords.tells_written g.Words.Iterator.next_gives
    g.met.Sink.WriteWords.writes_append
