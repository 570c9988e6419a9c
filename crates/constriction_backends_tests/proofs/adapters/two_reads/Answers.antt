use Rattle.std.proofs.Common.{[], ◌∷◌, refl}
use Rattle.constriction_backends_tests.proofs.adapters.two_reads.Goals as goal

pub returns : goal.returns
returns g c =
    c.remaining_counts.ensures c.args.source.now (c.read.result ∷ c.read-2.result ∷ []) c.read-2.new.self c.requires.exact
    (c.read.new.self, c.read.ensures.gives, (c.read-2.new.self, c.read-2.ensures.gives, refl)) 1 c.read-2.result refl
