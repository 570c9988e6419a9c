use Rattle.constriction_sources.specs.lemmas.Stack.{known_pushes}
use Rattle.constriction_sources.proofs.laws.writes_push.Goals as goal

pub returns : goal.returns
returns g c = λ s w r t wrote.
    let words_of = g.Backend.StackSource.words_of in
    known_pushes g.Backend.WriteWords.tells_written words_of (words_of s) g.met.Backend.WordStack.tells_no_others w r t
    (g.met.Backend.WriteWords.writes_append s w r t wrote (words_of s) (g.met.Backend.WordStack.tells_words s))
