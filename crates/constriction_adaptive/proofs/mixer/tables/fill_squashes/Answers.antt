use Rattle.std.proofs.Common.{◌≡◌, arith}
use Rattle.constriction_adaptive.specs.Mixing.{squash}
use Rattle.constriction_adaptive.proofs.ListLemmas.{set_more}
use Rattle.constriction_adaptive.proofs.mixer.tables.fill_squashes.Goals as goal

pub loop-i-preserved : goal.loop-i-preserved
loop-i-preserved c =
    set_more (λ k v. v ≡ squash k) c.loop-i.table c.loop-i.i c.squash.result (omega arith) c.loop-i.invariant c.squash.ensures
