-- The rows that were taken from the walk have their entries in the hash table.
use Rattle.std.specs.HashMap.{get, IsUnique}
use Rattle.std.specs.Iterator.{IsFinite}
use Rattle.constriction_conversions.proofs.HashLemmas.{IsHashed}
use Rattle.constriction_conversions.proofs.walking.table_walked.Given as goal

abbrev pub invariant-rows : goal.invariant-rows
invariant-rows g l =
    g.Walk.Iterator.can_next l.walk
    × IsFinite (g.Walk.Iterator.remaining l.walk)
    × IsUnique g.Symbol.PartialEq.eq l.table
    × IsHashed g.Walk.Iterator.next_gives l.fn.walk g.Symbol.PartialEq.eq (λ whole base e. (whole e.left, whole (base e.weight)))
    l.walk (get g.Symbol.PartialEq.eq l.table)
