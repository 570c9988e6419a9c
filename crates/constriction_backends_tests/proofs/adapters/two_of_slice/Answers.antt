use Rattle.constriction_backends.specs.lemmas.KnownLength.{slice-words-exact}
use Rattle.constriction_backends_tests.proofs.adapters.two_of_slice.Goals as goal

pub two_reads-requires-clause-exact : goal.two_reads-requires-clause-exact
two_reads-requires-clause-exact c = slice-words-exact c.new.result.inner
