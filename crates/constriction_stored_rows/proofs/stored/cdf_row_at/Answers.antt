use Rattle.std.proofs.Common.{◌≡◌, ◌+◌, ◌<◌, length, get_or, map, sym, ◌∙◌, arith}
use Rattle.std.proofs.lemmas.List.{length-map}
use Rattle.constriction_stored_rows.specs.Stored.{lefts_in, weights_of}
use Rattle.constriction_stored_rows.specs.lemmas.Stored.{read-whole}
use Rattle.constriction_stored_rows.proofs.CdfLemmas.{cdf-here, cdf-row, cdf-weight}
use Rattle.constriction_stored_rows.proofs.stored.cdf_row_at.Goals as goal

pub to_weight-requires : goal.to_weight-requires
to_weight-requires g c =
    let whole = g.Word.WholeNumber.whole in
    let words = c.args.cdf.now in
    let cdf = map whole words in
    let long : c.args.index + 1 < length cdf = omega (arith, c.requires.in_bounds, length-map words whole) in
    let row = cdf-row _ g.row.PRECISION cdf c.requires.cdf c.args.index long in
    let weight : whole c.wrapping_minus.result ≡ get_or (weights_of g.row.PRECISION (lefts_in cdf)) c.args.index 0 =
    cdf-weight _ g.row.PRECISION cdf c.args.index _ _ _ c.requires.cdf c.requires.fits long
    (read-whole whole words c.args.index c.index-cdf-index.result (omega (arith, c.requires.in_bounds)) c.index-cdf-index.is)
    (read-whole whole words (c.args.index + 1) c.index-cdf-index-2.result c.requires.in_bounds c.index-cdf-index-2.is)
    c.wrapping_minus.ensures.range c.wrapping_minus.ensures.difference in
    omega (arith, row.positive, weight)

pub returns-clause-weight : goal.returns-clause-weight
returns-clause-weight g c =
    let whole = g.Word.WholeNumber.whole in
    let words = c.args.cdf.now in
    let long : c.args.index + 1 < length (map whole words) = omega (arith, c.requires.in_bounds, length-map words whole) in
    rw c.to_weight.ensures
    (cdf-weight _ g.row.PRECISION (map whole words) c.args.index _ _ _ c.requires.cdf c.requires.fits long
    (read-whole whole words c.args.index c.index-cdf-index.result (omega (arith, c.requires.in_bounds)) c.index-cdf-index.is)
    (read-whole whole words (c.args.index + 1) c.index-cdf-index-2.result c.requires.in_bounds c.index-cdf-index-2.is)
    c.wrapping_minus.ensures.range c.wrapping_minus.ensures.difference)

pub returns-clause-left : goal.returns-clause-left
returns-clause-left g c =
    let whole = g.Word.WholeNumber.whole in
    let words = c.args.cdf.now in
    let long : c.args.index + 1 < length (map whole words) = omega (arith, c.requires.in_bounds, length-map words whole) in
    sym (read-whole whole words c.args.index c.index-cdf-index.result (omega (arith, c.requires.in_bounds)) c.index-cdf-index.is)
    ∙ cdf-here _ g.row.PRECISION (map whole words) c.requires.cdf c.args.index long
