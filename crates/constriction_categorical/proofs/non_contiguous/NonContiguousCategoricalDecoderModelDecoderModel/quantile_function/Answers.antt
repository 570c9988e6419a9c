use Rattle.std.proofs.Common.{length, ap, arith}
use Rattle.constriction_stored_rows.proofs.PairedLemmas.{paired-many}
use Rattle.constriction_stored_rows.specs.lemmas.SymbolRows.{paired-tiles}
use Rattle.constriction_categorical.proofs.RowAnswers.{all-searched, row-answered}
use Rattle.constriction_categorical.proofs.non_contiguous.NonContiguousCategoricalDecoderModelDecoderModel.quantile_function.Goals as goal

pub cloned_row_by_words-requires-clause-stored : goal.cloned_row_by_words-requires-clause-stored
cloned_row_by_words-requires-clause-stored g c = rw c.cdf_entries-entries.ensures c.args.self.now.stored

pub cloned_row_by_words-requires-clause-end_words : goal.cloned_row_by_words-requires-clause-end_words
cloned_row_by_words-requires-clause-end_words g c = rw c.cdf_entries-entries.ensures c.args.self.now.aided

pub cloned_row_by_words-requires-clause-in_bounds : goal.cloned_row_by_words-requires-clause-in_bounds
cloned_row_by_words-requires-clause-in_bounds g c =
    let whole = g.Probability.WholeNumber.whole in
    let entries = g.Cdf.SafeBuf.words_of c.args.self.now.cdf in
    let found = all-searched _ _ g.row.PRECISION _ _ _ _ _ (paired-tiles whole _ _ _ c.args.self.now.stored) c.requires.in_range
    c.quantile_probe.ensures c.row_in_probe-index.ensures in
    omega (
      arith,
      found.in_bounds,
      paired-many whole g.Probability.WholeNumber.BITS g.row.PRECISION entries c.args.self.now.stored,
      ap length c.cdf_entries-entries.ensures,
    )

pub returns-clause-row : goal.returns-clause-row
returns-clause-row g c =
    let whole = g.Probability.WholeNumber.whole in
    let found = all-searched _ _ g.row.PRECISION _ _ _ _ _ (paired-tiles whole _ _ _ c.args.self.now.stored) c.requires.in_range
    c.quantile_probe.ensures c.row_in_probe-index.ensures in
    (row-answered g.Symbol.Clone.is_clone _ whole g.Probability.WholeNumber.base _ _ _ found c.cloned_row_by_words.result
    (rw c.cdf_entries-entries.ensures at c.cloned_row_by_words.ensures.row)
    (rw c.cdf_entries-entries.ensures at c.cloned_row_by_words.ensures.refused)).0

pub returns-clause-refused : goal.returns-clause-refused
returns-clause-refused g c =
    let whole = g.Probability.WholeNumber.whole in
    let found = all-searched _ _ g.row.PRECISION _ _ _ _ _ (paired-tiles whole _ _ _ c.args.self.now.stored) c.requires.in_range
    c.quantile_probe.ensures c.row_in_probe-index.ensures in
    (row-answered g.Symbol.Clone.is_clone _ whole g.Probability.WholeNumber.base _ _ _ found c.cloned_row_by_words.result
    (rw c.cdf_entries-entries.ensures at c.cloned_row_by_words.ensures.row)
    (rw c.cdf_entries-entries.ensures at c.cloned_row_by_words.ensures.refused)).1
