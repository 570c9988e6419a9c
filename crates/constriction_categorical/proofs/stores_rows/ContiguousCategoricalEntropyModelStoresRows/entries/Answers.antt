use Rattle.std.proofs.Common.{map}
use Rattle.constriction_stored_rows.proofs.TileLemmas.{cdf-lefts}
use Rattle.constriction_categorical.proofs.stores_rows.ContiguousCategoricalEntropyModelStoresRows.entries.Goals as goal

pub returns : goal.returns
returns g c =
    let whole = g.Probability.WholeNumber.whole in
    cdf-lefts g.Probability.WholeNumber.BITS g.row.PRECISION (map whole (g.Cdf.SafeBuf.words_of c.args.self.now.cdf))
    (map whole c.cdf_entries.result.now)
    c.args.self.now.stored c.cdf_entries.ensures
