use Rattle.std.proofs.Common.{take}
use Rattle.constriction_model.specs.Coding.{InTurn}
use Rattle.constriction_model.specs.Rows.{entry_of}
use Rattle.constriction_coders.proofs.encode.Encode.encode_iid_slice.Given as goal

-- the symbols so far were encoded
abbrev pub invariant-loop-symbol : goal.invariant-loop-symbol
invariant-loop-symbol g l =
    InTurn (λ s. g.Self.Encode.is_encoded (entry_of g.E.EncoderModel.symbol_eq (g.E.EntropyModel.rows l.model) s))
    (take l.symbol-index l.symbols) (g.Self.Code.held l.initial.self) (g.Self.Code.held l.self)
