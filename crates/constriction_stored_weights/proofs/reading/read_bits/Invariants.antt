use Rattle.std.proofs.Common.{◌≡◌, ◌+◌, ◌*◌, ◌^◌, ◌<◌, ◌≤◌, ◌++◌, length}
use Rattle.constriction_stored_weights.specs.Bits.{bits}
use Rattle.constriction_stored_weights.specs.private.Places.{upcoming}
use Rattle.constriction_stored_weights.proofs.reading.read_bits.Given as goal

-- the bits so far were read
abbrev pub invariant-loop-at : goal.invariant-loop-at
invariant-loop-at l = record {
  within : l.place.next ≤ length l.bytes;
  few : l.at ≤ l.count;
  least : l.above * 2 ^ l.at ≤ l.number;
  most : l.number < (l.above + 1) * 2 ^ l.at;
  so_far : upcoming l.bytes l.fn.place ≡ bits l.at l.number ++ upcoming l.bytes l.place;
}
