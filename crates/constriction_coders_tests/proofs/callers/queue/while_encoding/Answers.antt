use Rattle.std.proofs.Common.{refl, subst}
use Rattle.constriction.specs.Coding.{InTurn}
use Rattle.constriction.specs.Rows.{entry_of}
use Rattle.constriction_coders.specs.RangeDecoder.{held_by}
use Rattle.constriction_coders.specs.Spans.{Span, IsNarrowed}
use Rattle.constriction_coders.proofs.Messages.{came-back}
use Rattle.constriction_coders.proofs.Spanning.{whole-reached}
use Rattle.constriction_coders_tests.proofs.callers.queue.while_encoding.Goals as goal

pub returns-in-Ok-decode_iid_vec : goal.returns-in-Ok-decode_iid_vec
returns-in-Ok-decode_iid_vec g c =
    let start = c.decoder-decoder.result in
    let words = c.decoder-decoder.ensures.0 in
    came-back (λ ss. ss) _ _ _ _ _ c.range_symbols_come_back.ensures.symbols (held_by start) _ c.in-Ok-decode_iid_vec.answers.items _
    c.in-Ok-decode_iid_vec.ensures.ok c.args.symbols.now words _ _ whole-reached refl
    (subst (λ (s : Span). InTurn
    (λ s. IsNarrowed (entry_of g.M.EncoderModel.symbol_eq (g.M.EntropyModel.rows c.args.model.now) s) g.row.PRECISION)
    c.args.symbols.now s c.encode_iid_slice.new.self) c.new-coder.ensures c.in-Ok.ensures.ok)
    c.decoder-decoder.ensures.1 c.decoder-decoder.ensures.2 c.in-Ok-decode_iid_vec.ensures.count
