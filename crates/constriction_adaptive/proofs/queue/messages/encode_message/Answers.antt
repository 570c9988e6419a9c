use Rattle.std.proofs.Common.{subst}
use Rattle.constriction_model.specs.Coding.{InTurn}
use Rattle.constriction_coders.specs.Places.{placed, entry_at}
use Rattle.constriction_coders.specs.Spans.{Span, IsNarrowed}
use Rattle.constriction_adaptive.specs.Predicted.{predicted_entry}
use Rattle.constriction_adaptive.proofs.queue.messages.encode_message.Goals as goal

pub returns-in-Ok-into_compressed-clause-ok : goal.returns-in-Ok-into_compressed-clause-ok
returns-in-Ok-into_compressed-clause-ok g c = (
  c.encode_adaptively.new.encoder,
  subst (λ (s : Span).
      InTurn (λ x. IsNarrowed (entry_at (predicted_entry g.P.Predictor.rows g.P.Model.EncoderModel.symbol_eq) x) g.row.PRECISION)
      (placed g.P.Predictor.next (g.P.Predictor.state c.args.predictor.now) c.args.symbols.now) s c.encode_adaptively.new.encoder)
      c.new-encoder.ensures c.in-Ok.ensures.ok.led,
  c.in-Ok-into_compressed.ensures.ok,
)
