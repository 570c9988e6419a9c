use Rattle.std.proofs.Common.{ℕ}
use Rattle.constriction_backends.specs.lemmas.KnownLength.{slice-items-exact}
use Rattle.constriction_backends_tests.proofs.adapters.two_of_items.Goals as goal

pub two_reads-requires-clause-exact : goal.two_reads-requires-clause-exact
two_reads-requires-clause-exact c = slice-items-exact ℕ c.new.result.inner
