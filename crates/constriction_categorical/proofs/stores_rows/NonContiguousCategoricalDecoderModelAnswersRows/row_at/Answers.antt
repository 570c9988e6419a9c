use Rattle.std.proofs.Common.{◌<◌, length, arith}
use Rattle.constriction_stored_rows.proofs.PairedLemmas.{paired-many}
use Rattle.constriction_categorical.proofs.RowAnswers.{row-stands}
use Rattle.constriction_categorical.proofs.stores_rows.NonContiguousCategoricalDecoderModelAnswersRows.row_at.Goals as goal

pub cloned_row_by_words-requires-clause-stored : goal.cloned_row_by_words-requires-clause-stored
cloned_row_by_words-requires-clause-stored g c = rw c.cdf_entries.ensures c.args.self.now.stored

pub cloned_row_by_words-requires-clause-end_words : goal.cloned_row_by_words-requires-clause-end_words
cloned_row_by_words-requires-clause-end_words g c = rw c.cdf_entries.ensures c.args.self.now.aided

pub cloned_row_by_words-requires-clause-in_bounds : goal.cloned_row_by_words-requires-clause-in_bounds
cloned_row_by_words-requires-clause-in_bounds g c =
    let entries = g.Cdf.SafeBuf.words_of c.args.self.now.cdf in
    let many = paired-many g.Probability.WholeNumber.whole g.Probability.WholeNumber.BITS g.row.PRECISION entries c.args.self.now.stored in
    let within : c.args.index < length entries = omega (arith, c.requires, many) in
    rw c.cdf_entries.ensures within

pub returns-clause-row : goal.returns-clause-row
returns-clause-row g c =
    row-stands _ _ _ _ _ c.args.index c.requires c.cloned_row_by_words.result
    (rw c.cdf_entries.ensures at c.cloned_row_by_words.ensures.row)
    (rw c.cdf_entries.ensures at c.cloned_row_by_words.ensures.refused)
