use Rattle.std.proofs.Common.{◌≡◌, ◌+◌, ◌-◌, length, map, refl, ◌∙◌, arith}
use Rattle.std.proofs.lemmas.List.{length-map, length-take}
use Rattle.constriction_model.specs.Model.{row_of}
use Rattle.constriction_stored_rows.specs.lemmas.SymbolRows.{lefts-words}
use Rattle.constriction_stored_rows.proofs.CdfLemmas.{cdf-long}
use Rattle.constriction_stored_rows.proofs.TileLemmas.{cdf-probed}
use Rattle.constriction_stored_rows.proofs.stored.contiguous_row_of_quantile.Goals as goal

pub row_in_probe-index-requires-clause-searchable : goal.row_in_probe-index-requires-clause-searchable
row_in_probe-index-requires-clause-searchable g c =
    let whole = g.Word.WholeNumber.whole in
    let words = c.args.cdf.now in
    (cdf-probed g.Word.WholeNumber.BITS g.row.PRECISION (map whole words) _ c.requires.cdf
    (c.new-rows.ensures.cumulatives ∙ lefts-words whole words)).1 (whole c.args.quantile)

pub returns-clause-row : goal.returns-clause-row
returns-clause-row g c =
    let whole = g.Word.WholeNumber.whole in
    let words = c.args.cdf.now in
    let index = c.row_in_probe-index.result in
    let found = (cdf-probed g.Word.WholeNumber.BITS g.row.PRECISION (map whole words) _ c.requires.cdf
    (c.new-rows.ensures.cumulatives ∙ lefts-words whole words)).2 _ index c.requires.in_range c.row_in_probe-index.ensures in
    let same : 0 + index ≡ index = omega arith in
    let answer = row_of whole g.Word.WholeNumber.base c.contiguous_row_at.result in
    (c.contiguous_row_at.result.0, refl, rw c.contiguous_row_at.ensures.row at (rw same at (found.row answer)))

pub returns-clause-known : goal.returns-clause-known
returns-clause-known g c =
    let whole = g.Word.WholeNumber.whole in
    let words = c.args.cdf.now in
    let index = c.row_in_probe-index.result in
    let found = (cdf-probed g.Word.WholeNumber.BITS g.row.PRECISION (map whole words) _ c.requires.cdf
    (c.new-rows.ensures.cumulatives ∙ lefts-words whole words)).2 _ index c.requires.in_range c.row_in_probe-index.ensures in
    omega (arith, c.contiguous_row_at.ensures.symbol, found.in_bounds)

pub contiguous_row_at-requires-clause-fits : goal.contiguous_row_at-requires-clause-fits
contiguous_row_at-requires-clause-fits g c = c.requires.fits

pub contiguous_row_at-requires-clause-cdf : goal.contiguous_row_at-requires-clause-cdf
contiguous_row_at-requires-clause-cdf g c = c.requires.cdf

pub returns-clause-within : goal.returns-clause-within
returns-clause-within g c = c.contiguous_row_at.ensures.within

pub slice_bounds-new-count : goal.slice_bounds-new-count
slice_bounds-new-count g c =
    let whole = g.Word.WholeNumber.whole in
    omega (arith, length-map c.args.cdf.now whole, cdf-long g.Word.WholeNumber.BITS g.row.PRECISION _ c.requires.cdf)

pub slice_bounds-new-length : goal.slice_bounds-new-length
slice_bounds-new-length g c = omega (arith, length-take (length c.args.cdf.now - 1) c.args.cdf.now)
