use Rattle.std.proofs.Common.{◌≡◌, ◌+◌, ◌*◌, ◌≤◌, ◌∷◌, length, vec_capacity}
use Rattle.constriction_backends.specs.Source.{Reads}
use Rattle.constriction_stored_weights.proofs.weights.read_weights.Given as goal

-- the number of weights and the weights so far were read, and there is room only for these, as many again, and four
abbrev pub invariant-loop-done : goal.invariant-loop-done
invariant-loop-done g l = record {
  goes_on : g.Source.ReadWords.can_read l.source;
  counted : length l.weights.items ≡ l.done;
  room : vec_capacity l.weights ≤ 2 * length l.weights.items + 4;
  so_far : Reads g.Source.ReadWords.read_gives l.fn.source (l.count ∷ l.weights.items) l.source;
}
