use Rattle.std.proofs.Common.{◌≡◌, length, take, drop}
use Rattle.constriction_model.specs.Coding.{InTurn}
use Rattle.constriction_coders.proofs.side_by_side.decode_both.Given as goal

-- as many symbols were decoded from either coder, and the others are as they were
abbrev pub invariant-loop-done : goal.invariant-loop-done
invariant-loop-done g l = record {
  first_goes_on : g.A.Decode.can_decode l.first_coder;
  first_long : length l.first ≡ length l.initial.first;
  first_others : drop l.done l.first ≡ drop l.done l.initial.first;
  first_led : InTurn (g.A.Decode.is_decoded _ g.D.DecoderModel.stands_for (g.D.EntropyModel.rows l.model)) (take l.done l.first)
      (g.A.Code.held l.initial.first_coder) (g.A.Code.held l.first_coder);
  second_goes_on : g.B.Decode.can_decode l.second_coder;
  second_long : length l.second ≡ length l.initial.second;
  second_others : drop l.done l.second ≡ drop l.done l.initial.second;
  second_led : InTurn (g.B.Decode.is_decoded _ g.D.DecoderModel.stands_for (g.D.EntropyModel.rows l.model)) (take l.done l.second)
      (g.B.Code.held l.initial.second_coder) (g.B.Code.held l.second_coder);
}
