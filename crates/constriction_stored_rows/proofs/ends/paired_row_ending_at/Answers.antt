use Rattle.std.proofs.Common.{◌≡◌, get_or, map, ap, sym, ◌∙◌, arith}
use Rattle.std.proofs.lemmas.List.{length-map}
use Rattle.constriction_stored_rows.specs.Stored.{weights_of}
use Rattle.constriction_stored_rows.specs.lemmas.Stored.{read-whole}
use Rattle.constriction_stored_rows.proofs.EndLemmas.{row-weight}
use Rattle.constriction_stored_rows.proofs.PairedLemmas.{paired-row}
use Rattle.constriction_stored_rows.proofs.ends.paired_row_ending_at.Goals as goal

pub to_weight-requires : goal.to_weight-requires
to_weight-requires g c =
    let known = λ (x : g.row.Word.Denot × g.row.Symbol.Denot). g.Word.WholeNumber.whole x.0 in
    let entries = c.args.entries.now in
    let row = paired-row g.Word.WholeNumber.whole g.Word.WholeNumber.BITS g.row.PRECISION entries c.requires.stored c.args.index
    c.requires.in_bounds in
    let weight : g.Word.WholeNumber.whole c.wrapping_minus.result ≡ get_or (weights_of g.row.PRECISION (map known entries)) c.args.index 0 =
    row-weight _ g.row.PRECISION (map known entries) c.requires.stored c.requires.fits c.args.index _ _ _
    (omega (arith, c.requires.in_bounds, length-map entries known))
    (read-whole known entries c.args.index c.index-entries-index.result c.requires.in_bounds c.index-entries-index.is
    ∙ ap known c.index-entries-index.is)
    c.requires.end c.wrapping_minus.ensures.range c.wrapping_minus.ensures.difference in
    omega (arith, row.positive, weight)

pub returns-clause-weight : goal.returns-clause-weight
returns-clause-weight g c =
    let known = λ (x : g.row.Word.Denot × g.row.Symbol.Denot). g.Word.WholeNumber.whole x.0 in
    let entries = c.args.entries.now in
    rw c.to_weight.ensures
    (row-weight _ g.row.PRECISION (map known entries) c.requires.stored c.requires.fits c.args.index _ _ _
    (omega (arith, c.requires.in_bounds, length-map entries known))
    (read-whole known entries c.args.index c.index-entries-index.result c.requires.in_bounds c.index-entries-index.is
    ∙ ap known c.index-entries-index.is)
    c.requires.end c.wrapping_minus.ensures.range c.wrapping_minus.ensures.difference)

pub bounds-entries-index : goal.bounds-entries-index
bounds-entries-index g c = c.requires.in_bounds

pub bounds-entries-index-2 : goal.bounds-entries-index-2
bounds-entries-index-2 g c = c.requires.in_bounds

pub returns-clause-left : goal.returns-clause-left
returns-clause-left g c =
    let known = λ (x : g.row.Word.Denot × g.row.Symbol.Denot). g.Word.WholeNumber.whole x.0 in
    sym (read-whole known c.args.entries.now c.args.index c.index-entries-index.result c.requires.in_bounds c.index-entries-index.is
    ∙ ap known c.index-entries-index.is)
