use Rattle.constriction_models_tests.proofs.distinct_symbols.letters_differ.Goals as goal

pub returns : goal.returns
returns c = c.non_contiguous_symbols_differ.ensures c.args.model.now
