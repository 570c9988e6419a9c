use Rattle.constriction_sources.specs.lemmas.Sink.{writes_more}
use Rattle.constriction_sources.proofs.write.WriteWords.extend_from_iter.Goals as goal

pub loop-word-preserved : goal.loop-word-preserved
loop-word-preserved g c = (
  c.in_ok-write.ensures.goes_on,
  writes_more g.Self.WriteWords.write_gives _ c.loop-word.yielded c.loop-word.self c.in-Some.word c.write.new.self
      c.loop-word.invariant.1 c.in_ok-write.ensures.gives,
)
