-- The rows that were taken from the walk are in the entries, and there is room for those that are left.
use Rattle.std.proofs.Common.{false, refl, ◌+◌, ◌≤◌, length}
use Rattle.std.specs.Prelude.{vec_capacity}
use Rattle.std.specs.Iterator.{IsFinite, size}
use Rattle.constriction_categorical.proofs.CollectLemmas.{IsCollected}
use Rattle.constriction_categorical.proofs.walking.entries_reserved.Given as goal

abbrev pub invariant-rows : goal.invariant-rows
invariant-rows g l =
    g.Walk.Iterator.can_next l.walk
    × IsFinite (g.Walk.Iterator.remaining l.walk)
    × (length l.entries.items + size (g.Walk.Iterator.remaining l.walk) ≤ vec_capacity l.entries)
    × IsCollected g.Walk.Iterator.next_gives l.fn.walk (λ _ _. false) (λ _ _. refl) l.walk l.entries.items
