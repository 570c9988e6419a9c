use Rattle.std.proofs.Common.{◌≡◌, ◌<◌, ◌≤◌, ◌++◌, drop, length}
use Rattle.std.specs.Prelude.{All}
use Rattle.constriction_pack.specs.Contents.{bytes_of_weights}
use Rattle.constriction_pack.proofs.leb128.weights_in.Given as goal

-- the bytes begin with the weights so far
abbrev pub invariant-loop-done : goal.invariant-loop-done
invariant-loop-done l = record {
  counted : length l.weights.items ≡ l.done;
  positive : All (λ w. 0 < w) l.weights.items;
  within : l.at ≤ length l.bytes;
  so_far : l.bytes ≡ bytes_of_weights l.weights.items ++ drop l.at l.bytes;
}
