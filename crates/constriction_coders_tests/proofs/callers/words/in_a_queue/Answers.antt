use Rattle.std.proofs.Common.{◌++◌, ◌∙◌, [], sym}
use Rattle.std.proofs.lemmas.Bool.{eqb-true}
use Rattle.std.proofs.lemmas.List.{append-nil}
use Rattle.constriction_coders.specs.RangeDecoder.{held_by}
use Rattle.constriction_coders_tests.proofs.Words.{three-read}
use Rattle.constriction_coders_tests.proofs.callers.words.in_a_queue.Goals as goal

pub returns : goal.returns
returns c =
    let words = c.in-Ok-into_compressed.words.items in
    let known = append-nil words ∙ sym c.new_at_write_beginning.ensures.ahead in
    let back = three-read _ _ _ _ _ _ _ _ _ _ _ _ _ _ _ _ _ _ _ _ _ _ _ c.range_symbols_come_back.ensures
    c.range_symbols_come_back-2.ensures c.range_symbols_come_back-3.ensures c.sealed_words_tell.ensures _ _ _ _ words
    (held_by c.in-Ok-from_compressed.opened) _ _ _ c.new-coder.ensures c.in-Ok.ensures.ok c.in-Ok-encode_symbol.ensures.ok
    c.in-Ok-encode_symbol-2.ensures.ok c.in-Ok-into_compressed.ensures.ok
    (c.in-Ok-from_compressed.ensures.begins (words ++ []) known) c.in-Ok-decode_symbol.ensures.ok c.in-Ok-decode_symbol-2.ensures.ok
    c.in-Ok-decode_symbol-3.ensures.ok in (
      back.0.2 ∙ eqb-true back.0.0 c.args.numbers.0 back.0.1,
      back.1.2 ∙ eqb-true back.1.0 c.args.numbers.1 back.1.1,
      back.2.2 ∙ eqb-true back.2.0 c.args.numbers.2 back.2.1,
    )
