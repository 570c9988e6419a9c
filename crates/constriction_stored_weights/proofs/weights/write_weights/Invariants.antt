use Rattle.std.proofs.Common.{◌∷◌, length, take}
use Rattle.constriction_backends.specs.Sink.{Writes}
use Rattle.constriction_stored_weights.proofs.weights.write_weights.Given as goal

-- the number of weights and the weights so far were written
abbrev pub invariant-loop-weight : goal.invariant-loop-weight
invariant-loop-weight g l = record {
  goes_on : g.Sink.WriteWords.can_write l.sink;
  so_far : Writes g.Sink.WriteWords.write_gives l.fn.sink (length l.weights ∷ take l.weight-index l.weights) l.sink;
}
