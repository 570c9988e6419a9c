use Rattle.std.proofs.Common.{take}
use Rattle.constriction_coders.specs.Places.{entry_at}
use Rattle.constriction_coders.specs.Spans.{IsNarrowed}
use Rattle.constriction_adaptive.specs.Predicted.{predicted_entry, AllTile, AreCoded}
use Rattle.constriction_adaptive.proofs.queue.encoding.encode_adaptively.Given as goal

-- the symbols so far were encoded and learned, and the rows of their states tile
abbrev pub invariant-loop-symbol : goal.invariant-loop-symbol
invariant-loop-symbol g l = record {
  so_far : AreCoded g.P.Predictor.next
      (λ s. IsNarrowed (entry_at (predicted_entry g.P.Predictor.rows g.P.Model.EncoderModel.symbol_eq) s) g.row.PRECISION)
      (take l.symbol-index l.symbols)
      (g.P.Predictor.state l.initial.predictor) l.initial.encoder (g.P.Predictor.state l.predictor) l.encoder;
  tile : AllTile g.P.Predictor.rows g.P.Predictor.next g.row.PRECISION (g.P.Predictor.state l.initial.predictor)
      (take l.symbol-index l.symbols);
}
