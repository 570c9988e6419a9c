use Rattle.constriction_adaptive.proofs.LastSymbolsLemmas.{none-kept}
use Rattle.constriction_adaptive.proofs.last_symbols.LastSymbols.new.Goals as goal

pub invariant_of-result : goal.invariant_of-result
invariant_of-result c =
    none-kept c.args.symbols c.args.order c.pow.result c.requires.some c.requires.order c.requires.few c.pow.ensures
