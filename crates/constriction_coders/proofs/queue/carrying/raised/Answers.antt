use Rattle.std.proofs.Common.{length, arith}
use Rattle.constriction_coders.proofs.NumberLemmas.{two-words-more}
use Rattle.constriction_coders.proofs.queue.carrying.raised.Goals as goal

pub carry-requires : goal.carry-requires
carry-requires c =
    rw c.deref_mut.ensures.value (omega (arith, c.requires, two-words-more (length c.args.words.now.items)))
