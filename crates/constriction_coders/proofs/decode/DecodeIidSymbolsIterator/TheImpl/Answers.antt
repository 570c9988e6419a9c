use Rattle.constriction_model.specs.lemmas.Hints.{exact-hint}
use Rattle.constriction_coders.proofs.decode.DecodeIidSymbolsIterator.TheImpl.Goals as goal

pub size_hint-tells : goal.size_hint-tells
size_hint-tells g x c =
    let both = exact-hint _ c.result c.ensures in
    record { lower = both.0; upper = both.1 }
