use Rattle.std.proofs.Common.{◌<◌, length, arith}
use Rattle.constriction_stored_rows.proofs.PairedLemmas.{paired-many, lent-lefts}
use Rattle.constriction_categorical.proofs.RowAnswers.{row-stands}
use Rattle.constriction_categorical.proofs.stores_rows.NonContiguousCategoricalDecoderModelAnswersRows.row_with_ends.Goals as goal

pub cloned_row_in_cdf-requires-clause-stored : goal.cloned_row_in_cdf-requires-clause-stored
cloned_row_in_cdf-requires-clause-stored g c = rw c.cdf_entries.ensures c.args.self.now.stored

pub cloned_row_in_cdf-requires-clause-cdf : goal.cloned_row_in_cdf-requires-clause-cdf
cloned_row_in_cdf-requires-clause-cdf g c =
    let same = lent-lefts g.Probability.WholeNumber.whole g.Probability.WholeNumber.BITS g.row.PRECISION
    (g.Cdf.SafeBuf.words_of c.args.self.now.cdf) c.args.self.now.stored c.cdf_entries.result.now c.cdf_entries.ensures in
    rw (← same) at c.requires.cdf

pub cloned_row_in_cdf-requires-clause-in_bounds : goal.cloned_row_in_cdf-requires-clause-in_bounds
cloned_row_in_cdf-requires-clause-in_bounds g c =
    let entries = g.Cdf.SafeBuf.words_of c.args.self.now.cdf in
    let many = paired-many g.Probability.WholeNumber.whole g.Probability.WholeNumber.BITS g.row.PRECISION entries c.args.self.now.stored in
    let within : c.args.index < length entries = omega (arith, c.requires.in_bounds, many) in
    rw c.cdf_entries.ensures within

pub returns-clause-row : goal.returns-clause-row
returns-clause-row g c =
    row-stands _ _ _ _ _ c.args.index c.requires.in_bounds c.cloned_row_in_cdf.result
    (rw c.cdf_entries.ensures at c.cloned_row_in_cdf.ensures.row) (rw c.cdf_entries.ensures at c.cloned_row_in_cdf.ensures.refused)
