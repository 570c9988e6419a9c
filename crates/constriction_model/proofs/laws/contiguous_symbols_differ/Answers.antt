use Rattle.constriction_model.specs.lemmas.Pairs.{contiguous-distinct}
use Rattle.constriction_model.proofs.laws.contiguous_symbols_differ.Goals as goal

pub returns : goal.returns
returns c = contiguous-distinct
