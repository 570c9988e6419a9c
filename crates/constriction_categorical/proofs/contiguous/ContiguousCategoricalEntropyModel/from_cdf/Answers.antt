use Rattle.std.proofs.Common.{◌≡◌, true, false, map, rules}
use Rattle.constriction_categorical.proofs.Refilled.{given-cdf, given-rows}
use Rattle.constriction_categorical.proofs.contiguous.ContiguousCategoricalEntropyModel.from_cdf.Goals as goal

pub returns-then-not-is_cdf-clause-rows : goal.returns-then-not-is_cdf-clause-rows
returns-then-not-is_cdf-clause-rows g c = λ weights t.
    let words = map g.Probability.WholeNumber.whole (g.Cdf.SafeBuf.words_of c.args.cdf) in
    let yes : c.is_cdf.result ≡ true =
    c.is_cdf.ensures.1 (rw c.words.ensures (given-cdf g.Probability.WholeNumber.BITS g.row.PRECISION words weights t)) in
    let no : c.is_cdf.result ≡ false = search rules in
    cc (yes, no)

pub returns-clause-rows : goal.returns-clause-rows
returns-clause-rows g c = λ weights t.
    given-rows g.Probability.WholeNumber.BITS g.row.PRECISION
    (map g.Probability.WholeNumber.whole (g.Cdf.SafeBuf.words_of c.args.cdf)) weights t
