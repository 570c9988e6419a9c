use Rattle.constriction_models_tests.proofs.distinct_symbols.numbers_differ.Goals as goal

pub returns : goal.returns
returns c = c.contiguous_symbols_differ.ensures _
