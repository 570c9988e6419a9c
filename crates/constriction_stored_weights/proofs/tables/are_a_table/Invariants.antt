use Rattle.std.proofs.Common.{◌≡◌, ◌*◌, ◌≤◌, sum, take}
use Rattle.constriction_stored_weights.proofs.tables.are_a_table.Given as goal

abbrev pub invariant-loop-weight : goal.invariant-loop-weight
invariant-loop-weight g l = record {
  counted : l.total ≡ sum (take l.weight-index l.weights);
  small : l.total ≤ l.weight-index * 4294967295;
}
