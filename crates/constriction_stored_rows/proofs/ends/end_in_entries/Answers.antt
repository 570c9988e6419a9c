use Rattle.std.proofs.Common.{◌+◌, map, ap, sym, ◌∙◌, arith}
use Rattle.std.proofs.lemmas.List.{length-map}
use Rattle.constriction_stored_rows.specs.lemmas.Stored.{read-whole}
use Rattle.constriction_stored_rows.proofs.EndLemmas.{end-next, end-last}
use Rattle.constriction_stored_rows.proofs.ends.end_in_entries.Goals as goal

pub returns-then-index-entries : goal.returns-then-index-entries
returns-then-index-entries g c =
    let known = λ (x : g.row.Word.Denot × g.row.Symbol.Denot). g.Word.WholeNumber.whole x.0 in
    let entries = c.args.entries.now in
    let long = length-map entries known in
    sym (end-next g.Word.WholeNumber.BITS g.row.PRECISION (map known entries) c.args.index (omega (arith, long))
    ∙ read-whole known entries (c.args.index + 1) c.index-entries-index.result (omega arith) c.index-entries-index.is
    ∙ ap known c.index-entries-index.is)

pub returns : goal.returns
returns g c =
    let known = λ (x : g.row.Word.Denot × g.row.Symbol.Denot). g.Word.WholeNumber.whole x.0 in
    let entries = c.args.entries.now in
    c.wrapping_pow2.ensures
    ∙ sym (end-last g.Word.WholeNumber.BITS g.row.PRECISION (map known entries) c.args.index (omega (arith, length-map entries known)))
