use Rattle.constriction_backends.specs.lemmas.KnownLength.{range-words-exact}
use Rattle.constriction_backends_tests.proofs.adapters.two_of_range.Goals as goal

pub two_reads-requires-clause-exact : goal.two_reads-requires-clause-exact
two_reads-requires-clause-exact c = range-words-exact c.new.result.inner
