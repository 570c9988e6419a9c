use Rattle.std.proofs.Common.{refl}
use Rattle.std.proofs.lemmas.Result.{err_from_is_err_and}
use Rattle.constriction_stored_rows.proofs.PairedLemmas.{paired-at, paired-row}
use Rattle.constriction_stored_rows.proofs.ends.cloned_row_ending_at.Goals as goal

pub returns : goal.returns
returns g c =
    let stored = paired-row g.Word.WholeNumber.whole g.Word.WholeNumber.BITS g.row.PRECISION c.args.entries.now c.requires.stored
    c.args.index c.requires.in_bounds in
    record {
      row = (
        c.index-entries-index.result.1,
        rw (← c.index-entries-index.is) at c.in_ok-symbol.ensures.cases,
        paired-at g.Word.WholeNumber.whole g.Word.WholeNumber.BITS g.row.PRECISION c.args.entries.now c.requires.stored c.args.index _ _
            c.index-entries-index.result.1 c.index-entries-index.result c.requires.in_bounds c.index-entries-index.is refl
            c.paired_row_ending_at-left.ensures.left c.paired_row_ending_at-left.ensures.weight,
      );
      within = rw (c.paired_row_ending_at-left.ensures.left, c.paired_row_ending_at-left.ensures.weight) (stored.positive, stored.within);
      refused = tt;
    }

pub returns-in_err-symbol : goal.returns-in_err-symbol
returns-in_err-symbol g c = rw (err_from_is_err_and c.from_residual.result c.from_residual.ensures.1).1 (record {
  row = tt;
  within = tt;
  refused = (
    _,
    paired-at g.Word.WholeNumber.whole g.Word.WholeNumber.BITS g.row.PRECISION c.args.entries.now c.requires.stored c.args.index
        (g.Word.WholeNumber.whole c.paired_row_ending_at-left.result.0)
        (g.Word.WholeNumber.whole (g.Word.WholeNumber.base c.paired_row_ending_at-left.result.1))
        c.index-entries-index.result.1 c.index-entries-index.result c.requires.in_bounds c.index-entries-index.is refl
        c.paired_row_ending_at-left.ensures.left c.paired_row_ending_at-left.ensures.weight,
    rw (← c.index-entries-index.is) at c.in_err-symbol.ensures.cases,
  );
})
