use Rattle.std.proofs.Common.{◌++◌, [], true, refl, sym, ◌∙◌}
use Rattle.std.proofs.lemmas.List.{append-nil}
use Rattle.constriction.specs.Rows.{entry_of}
use Rattle.constriction_coders.specs.RangeDecoder.{held_by}
use Rattle.constriction_coders.specs.lemmas.ModelWords.{tiles-wider}
use Rattle.constriction_coders_tests.proofs.TwoStates.{rows_in, after_first, two-back}
use Rattle.constriction_coders_tests.proofs.callers.queue.in_two_states.Goals as goal

pub returns-in-Ok-decode_symbol-2 : goal.returns-in-Ok-decode_symbol-2
returns-in-Ok-decode_symbol-2 g c =
    let words = c.in-Ok-into_compressed.words.items in
    let known = append-nil words ∙ sym c.new_at_write_beginning.ensures.ahead in
    let wider = λ (m : g.row.M.Denot). tiles-wider _ 32 g.row.PRECISION _ g.met.M.Probability.ModelWord.width_law
    (g.met.M.DecoderModel.tile_law m) in
    let eq = g.M.EncoderModel.symbol_eq in
    let rows = rows_in (g.M.EntropyModel.rows c.args.first.now) (g.M.EntropyModel.rows c.args.second.now) in
    two-back g.M.DecoderModel.stands_for eq (g.M.EntropyModel.rows c.args.first.now) (g.M.EntropyModel.rows c.args.second.now) _ _
    g.row.PRECISION (wider c.args.first.now) (wider c.args.second.now)
    (c.range_places_come_back.ensures eq (λ state. entry_of eq (rows state)) rows after_first true (λ state s t same. refl))
    _ _ _ _ _ _ _ words (held_by c.in-Ok-from_compressed.opened) _ _
    c.new-coder.ensures c.in-Ok.ensures.ok c.in-Ok-encode_symbol.ensures.ok c.in-Ok-into_compressed.ensures.ok
    (c.in-Ok-from_compressed.ensures.begins (words ++ []) known) c.in-Ok-decode_symbol.ensures.ok c.in-Ok-decode_symbol-2.ensures.ok
