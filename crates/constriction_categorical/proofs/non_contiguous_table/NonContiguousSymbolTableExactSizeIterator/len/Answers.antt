use Rattle.std.proofs.Common.{sym}
use Rattle.constriction_stored_rows.proofs.PairedLemmas.{paired-left}
use Rattle.constriction_categorical.proofs.non_contiguous_table.NonContiguousSymbolTableExactSizeIterator.len.Goals as goal

pub returns-clause-value : goal.returns-clause-value
returns-clause-value g c =
    let t = c.args.self.now in
    sym (paired-left g.Probability.WholeNumber.whole g.Probability.WholeNumber.BITS g.row.PRECISION t.entries.now t.stored
    t.from t.to t.in_bounds)
