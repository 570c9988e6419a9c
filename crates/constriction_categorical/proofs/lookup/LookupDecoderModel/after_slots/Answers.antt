use Rattle.std.proofs.Common.{arith}
use Rattle.constriction_stored_rows.specs.Slots.{slot_count, slot_width}
use Rattle.constriction_categorical.proofs.SlotWords.{slots-within, rest-lent}
use Rattle.constriction_categorical.proofs.lookup.LookupDecoderModel.after_slots.Goals as goal

pub returns : goal.returns
returns g c =
    rest-lent g.Model.Probability.WholeNumber.whole g.Model.Probability.WholeNumber.BITS g.row.PRECISION
    (slot_width g.row.PRECISION g.row.SLOT_BITS)
    (slot_count g.row.PRECISION g.row.SLOT_BITS) _ _ _ c.args.self.now.slots c.words.ensures c.words_of_table.result
    c.words_of_table.ensures

pub words_of_table-requires : goal.words_of_table-requires
words_of_table-requires g c = c.args.self.now.narrow

pub offset_bounds-words-words_of_table : goal.offset_bounds-words-words_of_table
offset_bounds-words-words_of_table g c =
    slots-within g.Model.Probability.WholeNumber.whole g.Model.Probability.WholeNumber.BITS g.row.PRECISION
    (slot_width g.row.PRECISION g.row.SLOT_BITS)
    (slot_count g.row.PRECISION g.row.SLOT_BITS) _ _ _ c.args.self.now.slots c.words.ensures c.words_of_table.result
    c.words_of_table.ensures

pub slice_bounds-result-count : goal.slice_bounds-result-count
slice_bounds-result-count g c =
    slots-within g.Model.Probability.WholeNumber.whole g.Model.Probability.WholeNumber.BITS g.row.PRECISION
    (slot_width g.row.PRECISION g.row.SLOT_BITS)
    (slot_count g.row.PRECISION g.row.SLOT_BITS) _ _ _ c.args.self.now.slots c.words.ensures c.words_of_table.result
    c.words_of_table.ensures

pub slice_bounds-result-start : goal.slice_bounds-result-start
slice_bounds-result-start g c = slice_bounds-result-count g c

pub slice_bounds-result-end : goal.slice_bounds-result-end
slice_bounds-result-end g c = omega arith
