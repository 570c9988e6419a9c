use Rattle.constriction_stored_rows.proofs.PairedLemmas.{lent-lefts}
use Rattle.constriction_categorical.proofs.stores_rows.NonContiguousCategoricalDecoderModelStoresRows.entries.Goals as goal

pub returns : goal.returns
returns g c =
    lent-lefts g.Probability.WholeNumber.whole g.Probability.WholeNumber.BITS g.row.PRECISION (g.Cdf.SafeBuf.words_of c.args.self.now.cdf)
    c.args.self.now.stored c.cdf_entries.result.now c.cdf_entries.ensures
