-- The rows that were taken from the walk are in the entries.
use Rattle.std.specs.Iterator.{IsFinite}
use Rattle.constriction_categorical.proofs.CollectLemmas.{IsCollected}
use Rattle.constriction_categorical.proofs.walking.entries_walked.Given as goal

abbrev pub invariant-rows : goal.invariant-rows
invariant-rows g l =
    g.Walk.Iterator.can_next l.walk
    × IsFinite (g.Walk.Iterator.remaining l.walk)
    × IsCollected g.Walk.Iterator.next_gives l.fn.walk g.Symbol.PartialEq.eq g.met.Symbol.Eq.laws.symm l.walk l.entries.items
