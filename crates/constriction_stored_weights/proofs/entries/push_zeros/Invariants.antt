use Rattle.std.proofs.Common.{◌≡◌, ◌+◌, ◌++◌, length, replicate, vec_capacity}
use Rattle.constriction_stored_weights.proofs.entries.push_zeros.Given as goal

abbrev pub invariant-loop-done : goal.invariant-loop-done
invariant-loop-done l = record {
  so_far : l.weights.items ≡ l.fn.weights.items ++ replicate l.done 0;
  counted : length l.weights.items ≡ length l.fn.weights.items + l.done;
  room : vec_capacity l.weights ≡ vec_capacity l.fn.weights;
}
