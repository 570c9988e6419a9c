use Rattle.std.proofs.Common.{◌≡◌, ap, subst}
use Rattle.constriction.specs.Coding.{InTurn}
use Rattle.constriction_coders.specs.AnsCoder.{held_by}
use Rattle.constriction_coders.specs.Steps.{Content, IsDecoded}
use Rattle.constriction_coders_tests.proofs.LentWords.{opened-keeps, place-back}
use Rattle.constriction_coders_tests.proofs.callers.stack.from_a_place.Goals as goal

pub unreachable-requires : goal.unreachable-requires
unreachable-requires g c =
    let start = c.in-Ok-from_compressed.decoder in
    let kept = opened-keeps (λ s. s.buf) (λ s r t h. h.1) c.new_at_write_end.result start c.in-Ok-from_compressed.ensures.read in
    let there : start.words.buf.now ≡ c.in-Ok-into_compressed.words.items =
    rw (kept, ap (λ p. p.0) c.new_at_write_end.ensures.parts) c.as_slice.ensures.value in
    let back = place-back _ g.row.PRECISION (c.encoded_once.ensures.place _) c.args.later.now _ _ (held_by start)
    (held_by c.seek.new.self) _ start.words.buf.now c.seek.result c.may_be_held.ensures
    c.in-Ok-encode_iid_slice_reverse.ensures.ok c.in-Ok-into_compressed.ensures.ok there
    (rw c.pos-place.ensures at c.seek.ensures.gives).0 in
    let failed = rw c.in-Err-seek.is at back.0 in cc

pub returns-in-Ok-decode_iid_vec : goal.returns-in-Ok-decode_iid_vec
returns-in-Ok-decode_iid_vec g c =
    let start = c.in-Ok-from_compressed.decoder in
    let kept = opened-keeps (λ s. s.buf) (λ s r t h. h.1) c.new_at_write_end.result start c.in-Ok-from_compressed.ensures.read in
    let there : start.words.buf.now ≡ c.in-Ok-into_compressed.words.items =
    rw (kept, ap (λ p. p.0) c.new_at_write_end.ensures.parts) c.as_slice.ensures.value in
    let back = place-back _ g.row.PRECISION (c.encoded_once.ensures.place _) c.args.later.now _ _ (held_by start)
    (held_by c.seek.new.self) _ start.words.buf.now c.seek.result c.may_be_held.ensures
    c.in-Ok-encode_iid_slice_reverse.ensures.ok c.in-Ok-into_compressed.ensures.ok there
    (rw c.pos-place.ensures at c.seek.ensures.gives).0 in
    let decoded = subst (λ (from : Content). InTurn (IsDecoded g.M.DecoderModel.stands_for (g.M.EntropyModel.rows c.args.model.now)
    g.row.PRECISION) c.in-Ok-decode_iid_vec.answers.items from (held_by c.decode_iid_vec.new.self)) back.1
    c.in-Ok-decode_iid_vec.ensures.ok in
    (c.symbols_come_back.ensures.all.symbols c.args.first.now c.in-Ok-decode_iid_vec.answers.items _ _ _ c.in-Ok.ensures.ok decoded
    c.in-Ok-decode_iid_vec.ensures.count).0
