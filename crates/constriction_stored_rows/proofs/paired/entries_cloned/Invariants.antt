-- the entries so far were cloned
use Rattle.std.specs.Prelude.{take}
use Rattle.constriction_stored_rows.specs.private.Filling.{AreEntriesCloned}
use Rattle.constriction_stored_rows.proofs.paired.entries_cloned.Given as goal

abbrev pub invariant-entries : goal.invariant-entries
invariant-entries g l = AreEntriesCloned g.Symbol.Clone.is_clone (take l.entry-index l.entries) l.cloned.items
