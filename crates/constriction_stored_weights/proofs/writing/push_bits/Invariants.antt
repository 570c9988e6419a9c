use Rattle.std.proofs.Common.{◌≡◌, ◌-◌, ◌/◌, ◌^◌, ◌≤◌, ◌++◌}
use Rattle.constriction_stored_weights.specs.Bits.{bits}
use Rattle.constriction_stored_weights.specs.private.Places.{Extends, held}
use Rattle.constriction_stored_weights.proofs.writing.push_bits.Given as goal

-- the bits above those that are left were added
abbrev pub invariant-loop-left : goal.invariant-loop-left
invariant-loop-left l = record {
  few : l.left ≤ l.count;
  extends : Extends l.fn.bytes.items l.bytes.items;
  so_far : held l.bytes.items l.place ≡ held l.fn.bytes.items l.fn.place ++ bits (l.count - l.left) (l.number / 2 ^ l.left);
}

abbrev pub decreases-loop-left : goal.decreases-loop-left
decreases-loop-left l = l.left
