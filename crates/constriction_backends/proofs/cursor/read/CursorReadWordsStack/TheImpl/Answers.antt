use Rattle.constriction_sources.specs.lemmas.Stack.{tells_end}
use Rattle.constriction_backends.proofs.cursor.read.CursorReadWordsStack.TheImpl.Goals as goal

pub maybe_exhausted-tells : goal.maybe_exhausted-tells
maybe_exhausted-tells g c = tells_end _ c.result c.ensures
