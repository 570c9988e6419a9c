use Rattle.std.proofs.Common.{◌≡◌, ◌≤◌, length, vec_capacity}
use Rattle.constriction_model.specs.Coding.{InTurn}
use Rattle.constriction_coders.proofs.decode.Decode.decode_iid_vec.Given as goal

-- as many symbols as turns were decoded
abbrev pub invariant-loop-done : goal.invariant-loop-done
invariant-loop-done g l = record {
  goes_on : g.Self.Decode.can_decode l.self;
  counted : length l.symbols.items ≡ l.done;
  room : l.count ≤ vec_capacity l.symbols;
  so_far : InTurn (g.Self.Decode.is_decoded _ g.D.DecoderModel.stands_for (g.D.EntropyModel.rows l.model)) l.symbols.items
      (g.Self.Code.held l.initial.self) (g.Self.Code.held l.self);
}
