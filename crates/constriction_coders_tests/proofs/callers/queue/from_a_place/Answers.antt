use Rattle.std.proofs.Common.{◌≡◌, ◌^◌, ◌<◌, ℕ, List, ◌++◌, [], refl, ap, sym, subst}
use Rattle.std.proofs.lemmas.List.{append-nil}
use Rattle.std.proofs.lemmas.List.Elements.{All-nil}
use Rattle.constriction_coders.specs.RangeDecoder.{held_by}
use Rattle.constriction_coders.specs.Spans.{LeadTo}
use Rattle.constriction_coders.proofs.Messages.{came-back}
use Rattle.constriction_coders_tests.proofs.callers.queue.from_a_place.Goals as goal

pub unreachable-requires : goal.unreachable-requires
unreachable-requires g c =
    let words = c.in-Ok-into_compressed.words.items in
    let start = c.in-Ok-from_compressed.decoder in
    let new = c.seek.new.self in
    let opened = c.in-Ok-from_compressed.ensures.ok in
    let there : start.words.buf.items ≡ words ++ [] =
    rw (opened.4.1, opened.3.1, ap (λ p. p.0) c.new_at_write_beginning.ensures.parts) (sym (append-nil words)) in
    let back = c.range_place_comes_back.ensures _ c.args.second.now _ _ words [] start.words.buf.items
    (held_by start) (held_by new) c.seek.result c.pos-place.ensures.reached
    c.in-Ok-encode_iid_slice.ensures.ok c.in-Ok-into_compressed.ensures.ok (All-nil (λ (w : ℕ). w < 2 ^ 32)) there
    (rw c.pos-place.ensures.place at c.seek.ensures.sought) in
    let failed = rw c.in-Err-seek.is at back.0 in cc

pub returns-in-Ok-decode_iid_vec : goal.returns-in-Ok-decode_iid_vec
returns-in-Ok-decode_iid_vec g c =
    let words = c.in-Ok-into_compressed.words.items in
    let start = c.in-Ok-from_compressed.decoder in
    let new = c.seek.new.self in
    let opened = c.in-Ok-from_compressed.ensures.ok in
    let there : start.words.buf.items ≡ words ++ [] =
    rw (opened.4.1, opened.3.1, ap (λ p. p.0) c.new_at_write_beginning.ensures.parts) (sym (append-nil words)) in
    let nil = All-nil (λ (w : ℕ). w < 2 ^ 32) in
    let noted = c.encode_iid_slice.new.self in
    let last = c.encode_iid_slice-2.new.self in
    let back = c.range_place_comes_back.ensures _ c.args.second.now noted last words [] start.words.buf.items
    (held_by start) (held_by new) c.seek.result c.pos-place.ensures.reached
    c.in-Ok-encode_iid_slice.ensures.ok c.in-Ok-into_compressed.ensures.ok nil there
    (rw c.pos-place.ensures.place at c.seek.ensures.sought) in
    let told = subst (λ (ws : List ℕ). LeadTo last ws) (sym there)
    (c.sealed_words_tell.ensures last words [] c.in-Ok-into_compressed.ensures.ok nil) in
    came-back (λ ss. ss) _ _ _ _ _ c.range_symbols_come_back.ensures.symbols (held_by new) _ c.in-Ok-decode_iid_vec.answers.items _
    c.in-Ok-decode_iid_vec.ensures.ok c.args.second.now start.words.buf.items noted last c.pos-place.ensures.reached refl
    c.in-Ok-encode_iid_slice.ensures.ok told back.1 c.in-Ok-decode_iid_vec.ensures.count
