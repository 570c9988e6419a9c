use Rattle.constriction_sources.specs.lemmas.Stack.{known_pops}
use Rattle.constriction_sources.proofs.stack.StackSource.pop.Goals as goal

pub returns-clause-pops : goal.returns-clause-pops
returns-clause-pops g c =
    known_pops g.Self.ReadWords.tells_upcoming g.Self.StackSource.words_of (g.Self.StackSource.words_of c.args.self.now)
    g.met.Self.StackSource.no_others_come c.read.result c.read.new.self
    (g.met.Self.ReadWords.reads_upcoming c.args.self.now c.read.result c.read.new.self c.read.ensures.gives _
    (g.met.Self.StackSource.words_come c.args.self.now))
