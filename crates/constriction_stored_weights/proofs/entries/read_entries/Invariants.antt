use Rattle.std.proofs.Common.{◌≤◌, length, vec_capacity}
use Rattle.constriction_stored_weights.specs.private.Places.{upcoming}
use Rattle.constriction_stored_weights.proofs.EntriesLemmas.{Reached}
use Rattle.constriction_stored_weights.proofs.entries.read_entries.Given as goal

abbrev pub invariant-loop-left : goal.invariant-loop-left
invariant-loop-left g l = record {
  within : l.place.next ≤ length l.bytes;
  room : l.count ≤ vec_capacity l.weights;
  reached : Reached g.row.PRECISION l.count (upcoming l.bytes l.fn.place) l.weights.items (upcoming l.bytes l.place) l.left;
}

abbrev pub decreases-loop-left : goal.decreases-loop-left
decreases-loop-left g l = l.left
