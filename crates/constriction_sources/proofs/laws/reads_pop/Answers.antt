use Rattle.constriction_sources.specs.lemmas.Stack.{known_pops}
use Rattle.constriction_sources.proofs.laws.reads_pop.Goals as goal

pub returns : goal.returns
returns g c = λ s r t read.
    let words_of = g.Backend.StackSource.words_of in
    known_pops g.Backend.ReadWords.tells_upcoming words_of (words_of s) g.met.Backend.StackSource.no_others_come r t
    (g.met.Backend.ReadWords.reads_upcoming s r t read _ (g.met.Backend.StackSource.words_come s))
