use Rattle.std.proofs.Common.{◌+◌, ◌<◌, length, map, refl, arith}
use Rattle.std.proofs.lemmas.List.{length-map}
use Rattle.constriction_stored_rows.proofs.StoredSteps.{stored-here}
use Rattle.constriction_stored_rows.proofs.CdfLemmas.{cdf-row}
use Rattle.constriction_stored_rows.proofs.stored.contiguous_row_at.Goals as goal

pub returns : goal.returns
returns g c =
    let whole = g.Word.WholeNumber.whole in
    let bits = g.Word.WholeNumber.BITS in
    let cdf = map whole c.args.cdf.now in
    let within : c.args.index + 1 < length cdf = omega (arith, c.requires.in_bounds, length-map c.args.cdf.now whole) in
    let row = cdf-row bits g.row.PRECISION cdf c.requires.cdf c.args.index within in
    record {
      row =
          stored-here bits g.row.PRECISION cdf c.requires.cdf c.args.index (whole c.cdf_row_at-left.result.0)
          (whole (g.Word.WholeNumber.base c.cdf_row_at-left.result.1)) within c.cdf_row_at-left.ensures.left
          c.cdf_row_at-left.ensures.weight;
      within = rw (c.cdf_row_at-left.ensures.left, c.cdf_row_at-left.ensures.weight) (row.positive, row.within);
      symbol = refl;
    }
