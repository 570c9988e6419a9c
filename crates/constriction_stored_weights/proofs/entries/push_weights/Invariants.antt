use Rattle.std.proofs.Common.{◌≡◌, ℕ, ◌≤◌, List, ◌++◌, drop}
use Rattle.constriction_stored_weights.specs.Bits.{bits_of_bytes}
use Rattle.constriction_stored_weights.specs.Tables.{weight_bits}
use Rattle.constriction_stored_weights.specs.private.Places.{Extends, held}
use Rattle.constriction_stored_weights.proofs.entries.push_weights.Given as goal

-- the entries so far were added, and the zeros after them were counted
abbrev pub invariant-loop-weight : goal.invariant-loop-weight
invariant-loop-weight l = record {
  few : l.zeros ≤ l.weight-index;
  extends : Extends l.fn.bytes.items l.bytes.items;
  so_far : (written : List ℕ) × (held l.bytes.items l.place ≡ bits_of_bytes l.fn.bytes.items ++ written)
      × (weight_bits 0 l.weights ≡ written ++ weight_bits l.zeros (drop l.weight-index l.weights));
}
