use Rattle.std.proofs.Common.{◌<◌, length, map, arith}
use Rattle.std.proofs.lemmas.Grind.{common_steps}
use Rattle.std.proofs.lemmas.List.{length-map}
use Rattle.constriction_stored_rows.proofs.EndLemmas.{among-long, among-end}
use Rattle.constriction_stored_rows.proofs.ends.end_in_cdf.Goals as goal

pub bounds-cdf-index : goal.bounds-cdf-index
bounds-cdf-index g c =
    let whole = g.Word.WholeNumber.whole in
    let known = λ (x : g.row.Word.Denot × g.row.Symbol.Denot). whole x.0 in
    let some : 0 < length (map whole c.args.cdf.now) = grind (arith, common_steps, length-map c.args.cdf.now whole) in
    omega (
      arith,
      length-map c.args.entries.now known,
      among-long g.Word.WholeNumber.BITS g.row.PRECISION (map known c.args.entries.now) whole c.args.cdf.now (c.requires.cdf some),
    )

pub returns : goal.returns
returns g c =
    let whole = g.Word.WholeNumber.whole in
    let known = λ (x : g.row.Word.Denot × g.row.Symbol.Denot). whole x.0 in
    let some : 0 < length (map whole c.args.cdf.now) = grind (arith, common_steps, length-map c.args.cdf.now whole) in
    among-end g.Word.WholeNumber.BITS g.row.PRECISION (map known c.args.entries.now) whole c.args.cdf.now (c.requires.cdf some) c.args.index
    _ (omega (arith, length-map c.args.entries.now known)) c.index-cdf-index.is

pub returns-then-is_empty : goal.returns-then-is_empty
returns-then-is_empty g c = c.end_out_of_line.ensures

pub end_out_of_line-requires-clause-precision : goal.end_out_of_line-requires-clause-precision
end_out_of_line-requires-clause-precision g c = c.requires.precision

pub end_out_of_line-requires-clause-in_bounds : goal.end_out_of_line-requires-clause-in_bounds
end_out_of_line-requires-clause-in_bounds g c = c.requires.in_bounds

pub offset_bounds-cdf-index : goal.offset_bounds-cdf-index
offset_bounds-cdf-index g c =
    let whole = g.Word.WholeNumber.whole in
    let known = λ (x : g.row.Word.Denot × g.row.Symbol.Denot). whole x.0 in
    let some : 0 < length (map whole c.args.cdf.now) = grind (arith, common_steps, length-map c.args.cdf.now whole) in
    omega (
      arith,
      length-map c.args.entries.now known,
      among-long g.Word.WholeNumber.BITS g.row.PRECISION (map known c.args.entries.now) whole c.args.cdf.now (c.requires.cdf some),
    )
