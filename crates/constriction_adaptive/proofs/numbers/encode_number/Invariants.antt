use Rattle.std.proofs.Common.{◌≡◌, ◌++◌, ◌-◌, List, Bool}
use Rattle.std.specs.Bool.{beq}
use Rattle.constriction_coders.specs.Places.{entry_at}
use Rattle.constriction_coders.specs.Spans.{IsNarrowed}
use Rattle.constriction_adaptive.specs.Numbers.{bits_of}
use Rattle.constriction_adaptive.specs.Predicted.{predicted_entry, AllTile, AreCoded}
use Rattle.constriction_adaptive.proofs.numbers.encode_number.Given as goal

-- the bits so far, which are followed by the others of the number, were encoded and learned, and the rows of their states tile
abbrev pub invariant-loop-done : goal.invariant-loop-done
invariant-loop-done g l = record {
  so_far : (front : List Bool) × (bits_of g.row.BITS l.bits ≡ front ++ bits_of (g.row.BITS - l.done) l.bits)
      × AreCoded g.P.Predictor.next (λ s. IsNarrowed (entry_at (predicted_entry g.P.Predictor.rows beq) s) 16) front
      (g.P.Predictor.state l.initial.predictor) l.initial.encoder (g.P.Predictor.state l.predictor) l.encoder
      × AllTile g.P.Predictor.rows g.P.Predictor.next 16 (g.P.Predictor.state l.initial.predictor) front;
}
