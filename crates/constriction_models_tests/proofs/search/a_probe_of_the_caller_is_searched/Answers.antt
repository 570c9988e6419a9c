use Rattle.std.proofs.Common.{arith}
use Rattle.constriction_models_tests.proofs.EvenLemmas.{evens_searchable}
use Rattle.constriction_models_tests.proofs.search.a_probe_of_the_caller_is_searched.Goals as goal

pub row_of_quantile-requires-clause-searchable : goal.row_of_quantile-requires-clause-searchable
row_of_quantile-requires-clause-searchable c = λ _. evens_searchable 1000 999 (omega arith)
