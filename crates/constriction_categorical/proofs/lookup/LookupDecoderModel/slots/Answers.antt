use Rattle.std.proofs.Common.{sym}
use Rattle.std.proofs.lemmas.List.{length-take-le}
use Rattle.constriction_stored_rows.specs.Slots.{slot_count, slot_width}
use Rattle.constriction_categorical.proofs.SlotWords.{slots-within, slots-lent}
use Rattle.constriction_categorical.proofs.lookup.LookupDecoderModel.slots.Goals as goal

pub returns : goal.returns
returns g c =
    slots-lent g.Model.Probability.WholeNumber.whole g.Model.Probability.WholeNumber.BITS g.row.PRECISION
    (slot_width g.row.PRECISION g.row.SLOT_BITS)
    (slot_count g.row.PRECISION g.row.SLOT_BITS) _ _ _ c.args.self.now.slots c.words.ensures c.words_of_table.result
    c.words_of_table.ensures

pub words_of_table-requires : goal.words_of_table-requires
words_of_table-requires g c = c.args.self.now.narrow

pub slice_bounds-result-end : goal.slice_bounds-result-end
slice_bounds-result-end g c =
    sym (length-take-le c.words_of_table.result c.words.result.now (
    slots-within g.Model.Probability.WholeNumber.whole g.Model.Probability.WholeNumber.BITS g.row.PRECISION
    (slot_width g.row.PRECISION g.row.SLOT_BITS)
    (slot_count g.row.PRECISION g.row.SLOT_BITS) _ _ _ c.args.self.now.slots c.words.ensures c.words_of_table.result
    c.words_of_table.ensures))
