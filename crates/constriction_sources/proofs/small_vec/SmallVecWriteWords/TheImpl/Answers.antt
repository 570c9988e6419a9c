use Rattle.constriction_sources.specs.lemmas.Stack.{always_room}
use Rattle.constriction_sources.proofs.small_vec.SmallVecWriteWords.TheImpl.Goals as goal

pub maybe_full-tells : goal.maybe_full-tells
maybe_full-tells g c = always_room c.result
