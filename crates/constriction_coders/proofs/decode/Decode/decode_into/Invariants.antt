use Rattle.std.proofs.Common.{◌≡◌, length, take, drop}
use Rattle.constriction_model.specs.Coding.{InTurn}
use Rattle.constriction_coders.proofs.decode.Decode.decode_into.Given as goal

-- the first symbols were decoded, and the others are as they were
abbrev pub invariant-loop-done : goal.invariant-loop-done
invariant-loop-done g l = record {
  goes_on : g.Self.Decode.can_decode l.self;
  long : length l.symbols ≡ length l.initial.symbols;
  others : drop l.done l.symbols ≡ drop l.done l.initial.symbols;
  so_far : InTurn (g.Self.Decode.is_decoded _ g.D.DecoderModel.stands_for (g.D.EntropyModel.rows l.model)) (take l.done l.symbols)
      (g.Self.Code.held l.initial.self) (g.Self.Code.held l.self);
}
