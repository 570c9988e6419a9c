use Rattle.std.proofs.Common.{◌-◌, length, map, ap, arith}
use Rattle.std.proofs.lemmas.List.{length-map, length-take}
use Rattle.constriction_stored_rows.proofs.CdfLemmas.{cdf-long}
use Rattle.constriction_stored_rows.specs.lemmas.SymbolRows.{lefts-words}
use Rattle.constriction_categorical.proofs.contiguous.ContiguousCategoricalEntropyModel.cdf_entries.Goals as goal

pub returns : goal.returns
returns g c = rw c.words-cdf.ensures (lefts-words g.Probability.WholeNumber.whole (g.Cdf.SafeBuf.words_of c.args.self.now.cdf))

pub slice_bounds-result-count : goal.slice_bounds-result-count
slice_bounds-result-count g c =
    let words = g.Cdf.SafeBuf.words_of c.args.self.now.cdf in
    let long = cdf-long g.Probability.WholeNumber.BITS g.row.PRECISION (map g.Probability.WholeNumber.whole words) c.args.self.now.stored in
    omega (arith, ap length c.words-cdf.ensures, length-map words g.Probability.WholeNumber.whole, long)

pub slice_bounds-result-length : goal.slice_bounds-result-length
slice_bounds-result-length g c =
    let words = c.words-cdf.result.now in
    omega (arith, length-take (length words - 1) words)
