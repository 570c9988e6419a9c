use Rattle.std.proofs.Common.{◌++◌, [], sym, ◌∙◌}
use Rattle.std.proofs.lemmas.List.{append-nil}
use Rattle.constriction_coders.specs.RangeDecoder.{held_by}
use Rattle.constriction_coders_tests.proofs.Pairs.{two-back}
use Rattle.constriction_coders_tests.proofs.callers.queue.by_two_models.Goals as goal

pub returns-in-Ok-decode_symbol-2 : goal.returns-in-Ok-decode_symbol-2
returns-in-Ok-decode_symbol-2 g c =
    let words = c.in-Ok-into_compressed.words.items in
    let known = append-nil words ∙ sym c.new_at_write_beginning.ensures.ahead in
    two-back _ _ _ _ _ _ _ _ _ _ _ _ c.range_symbols_come_back.ensures c.range_symbols_come_back-2.ensures _ _ _ _ _ _ _ words
    (held_by c.in-Ok-from_compressed.opened) _ _
    c.new-coder.ensures c.in-Ok.ensures.ok c.in-Ok-encode_symbol.ensures.ok c.in-Ok-into_compressed.ensures.ok
    (c.in-Ok-from_compressed.ensures.begins (words ++ []) known) c.in-Ok-decode_symbol.ensures.ok c.in-Ok-decode_symbol-2.ensures.ok
