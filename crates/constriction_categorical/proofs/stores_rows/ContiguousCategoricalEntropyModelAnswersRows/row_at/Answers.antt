use Rattle.std.proofs.Common.{◌+◌, ◌<◌, length, get_or, map, refl, sym, arith}
use Rattle.std.proofs.lemmas.Option.{slice_get_read}
use Rattle.constriction_model.specs.Model.{row_of}
use Rattle.constriction_model.specs.Rows.{contiguous_rows}
use Rattle.constriction_stored_rows.specs.Stored.{lefts_in, weights_of}
use Rattle.std.proofs.lemmas.List.{length-map}
use Rattle.constriction_stored_rows.proofs.CdfLemmas.{cdf-rows}
use Rattle.constriction_categorical.proofs.stores_rows.ContiguousCategoricalEntropyModelAnswersRows.row_at.Goals as goal

pub contiguous_row_at-requires-clause-cdf : goal.contiguous_row_at-requires-clause-cdf
contiguous_row_at-requires-clause-cdf g c = rw c.words.ensures c.args.self.now.stored

pub contiguous_row_at-requires-clause-in_bounds : goal.contiguous_row_at-requires-clause-in_bounds
contiguous_row_at-requires-clause-in_bounds g c =
    let words = g.Cdf.SafeBuf.words_of c.args.self.now.cdf in
    let within : c.args.index + 1 < length words =
    omega (
      arith,
      c.requires,
      length-map words g.Probability.WholeNumber.whole,
      cdf-rows g.Probability.WholeNumber.BITS g.row.PRECISION (map g.Probability.WholeNumber.whole words) c.args.self.now.stored,
    ) in
    rw c.words.ensures within

pub returns-clause-row : goal.returns-clause-row
returns-clause-row g c =
    let whole = g.Probability.WholeNumber.whole in
    let rows = contiguous_rows (weights_of g.row.PRECISION (lefts_in (map whole (g.Cdf.SafeBuf.words_of c.args.self.now.cdf)))) in
    let row = row_of whole g.Probability.WholeNumber.base c.contiguous_row_at.result in
    let at = rw c.words.ensures at c.contiguous_row_at.ensures.row in
    let is = sym {a = get_or rows c.args.index row} at in
    (row, slice_get_read rows (length rows) c.args.index row refl c.requires is, ((c.contiguous_row_at.result.0, refl, refl), tt))
