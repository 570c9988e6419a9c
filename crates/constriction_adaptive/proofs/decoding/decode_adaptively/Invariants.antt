use Rattle.std.proofs.Common.{◌≡◌, ◌≤◌, length, vec_capacity}
use Rattle.constriction_adaptive.specs.Predicted.{AreCoded, IsDecodedIn}
use Rattle.constriction_adaptive.proofs.decoding.decode_adaptively.Given as goal

-- as many symbols as turns were decoded and learned
abbrev pub invariant-loop-done : goal.invariant-loop-done
invariant-loop-done g l = record {
  goes_on : g.C.Decode.can_decode l.coder;
  counted : length l.answers.items ≡ l.done;
  room : l.count ≤ vec_capacity l.answers;
  so_far : AreCoded g.P.Predictor.next
      (IsDecodedIn g.P.Predictor.rows g.P.Model.EncoderModel.symbol_eq g.row.PRECISION
      (g.C.Decode.is_decoded _ g.P.Model.DecoderModel.stands_for)) l.answers.items
      (g.P.Predictor.state l.initial.predictor) (g.C.Code.held l.initial.coder) (g.P.Predictor.state l.predictor)
      (g.C.Code.held l.coder);
}
