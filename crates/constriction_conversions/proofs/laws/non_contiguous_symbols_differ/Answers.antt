use Rattle.constriction_stored_rows.proofs.PairedLemmas.{paired-symbols_differ}
use Rattle.constriction_conversions.proofs.laws.non_contiguous_symbols_differ.Goals as goal

pub returns : goal.returns
returns g c = λ m.
    paired-symbols_differ g.Probability.WholeNumber.whole g.Probability.WholeNumber.BITS g.row.PRECISION
    (g.Cdf.SafeBuf.words_of m.cdf) m.stored g.Symbol.PartialEq.eq m.distinct
