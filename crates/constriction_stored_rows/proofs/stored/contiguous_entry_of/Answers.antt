use Rattle.std.specs.Prelude.{nat_eq}
use Rattle.std.proofs.Common.{map, arith, Some}
use Rattle.std.proofs.lemmas.List.{length-map}
use Rattle.constriction_model.specs.lemmas.Coding.{words-within}
use Rattle.constriction_stored_rows.specs.Stored.{lefts_in}
use Rattle.constriction_stored_rows.specs.lemmas.StoredRows.{stored-entry, stored-no_entry, stored-within}
use Rattle.constriction_stored_rows.proofs.CdfLemmas.{cdf-long}
use Rattle.constriction_stored_rows.proofs.stored.contiguous_entry_of.Goals as goal

pub returns-then-symbol-cdf : goal.returns-then-symbol-cdf
returns-then-symbol-cdf g c =
    let whole = g.Word.WholeNumber.whole in
    let table = map whole c.args.cdf.now in
    let t = c.requires.cdf in
    let found = stored-entry g.Word.WholeNumber.BITS g.row.PRECISION (lefts_in table) t.stored c.args.symbol _ _
    (omega (arith, c.if-symbol-cdf.true, cdf-long _ _ table t, length-map c.args.cdf.now whole))
    c.cdf_row_at.ensures.left c.cdf_row_at.ensures.weight in
    record {
      entry = found;
      within = words-within g.row.PRECISION nat_eq _ c.args.symbol whole g.Word.WholeNumber.base (Some c.cdf_row_at.result) found
          (stored-within _ _ _ t.stored);
    }

pub returns-else-symbol-cdf : goal.returns-else-symbol-cdf
returns-else-symbol-cdf g c =
    let whole = g.Word.WholeNumber.whole in
    let table = map whole c.args.cdf.now in
    let t = c.requires.cdf in
    record {
      entry = stored-no_entry g.Word.WholeNumber.BITS g.row.PRECISION (lefts_in table) t.stored c.args.symbol
          (omega (arith, c.if-symbol-cdf.false, cdf-long _ _ table t, length-map c.args.cdf.now whole));
      within = tt;
    }
