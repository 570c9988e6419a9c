use Rattle.constriction_sources.specs.lemmas.Stack.{known_pushes}
use Rattle.constriction_sources.proofs.stack.WordStack.push.Goals as goal

pub returns-clause-pushes : goal.returns-clause-pushes
returns-clause-pushes g c =
    known_pushes g.Self.WriteWords.tells_written g.Self.StackSource.words_of (g.Self.StackSource.words_of c.args.self.now)
    g.met.Self.WordStack.tells_no_others c.args.word c.write.result c.write.new.self
    (g.met.Self.WriteWords.writes_append c.args.self.now _ _ c.write.new.self c.write.ensures.gives _
    (g.met.Self.WordStack.tells_words c.args.self.now))
