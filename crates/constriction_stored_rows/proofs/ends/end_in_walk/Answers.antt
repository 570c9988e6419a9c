use Rattle.std.proofs.Common.{◌+◌, map, ap, sym, ◌∙◌, arith}
use Rattle.std.proofs.lemmas.List.{length-map}
use Rattle.constriction_stored_rows.specs.lemmas.Stored.{read-whole}
use Rattle.constriction_stored_rows.proofs.EndLemmas.{end-next}
use Rattle.constriction_stored_rows.proofs.ends.end_in_walk.Goals as goal

pub returns-then-rows-gt1-clause-some : goal.returns-then-rows-gt1-clause-some
returns-then-rows-gt1-clause-some g c =
    let known = λ (x : g.row.Word.Denot × g.row.Symbol.Denot). g.Word.WholeNumber.whole x.0 in
    let entries = c.args.entries.now in
    let long = length-map entries known in (
      omega arith,
      sym (end-next g.Word.WholeNumber.BITS g.row.PRECISION (map known entries) c.args.from (omega (arith, long))
          ∙ read-whole known entries (c.args.from + 1) c.index-entries-from.result (omega arith) c.index-entries-from.is
          ∙ ap known c.index-entries-from.is),
    )

pub returns-clause-some : goal.returns-clause-some
returns-clause-some g c = (omega arith, c.end_out_of_line.ensures)
