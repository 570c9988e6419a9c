use Rattle.std.proofs.Common.{◌-◌, ◌≡◌, drop, length}
use Rattle.constriction_model.specs.Coding.{InTurn}
use Rattle.constriction_model.specs.Rows.{entry_of}
use Rattle.constriction_coders.specs.AnsCoder.{held_by}
use Rattle.constriction_coders.specs.Steps.{IsEncoded}
use Rattle.constriction_coders.proofs.stack.ans_coder.AnsCoder.encode_prepared_slice_reverse.Given as goal

-- the last symbols were encoded
abbrev pub invariant-loop-done : goal.invariant-loop-done
invariant-loop-done g l = record {
  counted : l.count ≡ length l.symbols;
  so_far : InTurn (λ s. IsEncoded (entry_of g.M.EncoderModel.symbol_eq (g.M.EntropyModel.rows l.model) s) g.row.PRECISION)
      (drop (length l.symbols - l.done) l.symbols) (held_by l.self)
      (held_by l.initial.self);
}
