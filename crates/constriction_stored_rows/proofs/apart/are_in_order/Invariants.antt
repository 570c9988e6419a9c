-- each symbol so far is less than the next one
use Rattle.std.proofs.Common.{◌-◌, ◌≤◌, length}
use Rattle.constriction_stored_rows.proofs.OrderLemmas.{InOrderBelow}
use Rattle.constriction_stored_rows.proofs.apart.are_in_order.Given as goal

abbrev pub invariant-entries : goal.invariant-entries
invariant-entries g l = record { some : 1 ≤ l.next; so_far : InOrderBelow g.Symbol.Ord.cmp l.entries l.next }

abbrev pub decreases-entries : goal.decreases-entries
decreases-entries g l = length l.entries - l.next
