use Rattle.std.proofs.lemmas.Result.{IfOk-weaker}
use Rattle.constriction_model.specs.lemmas.Stand.{distinct-clones}
use Rattle.constriction_stored_rows.proofs.PairedLemmas.{cloned-words, cloned-symbols, cloned-rows}
use Rattle.constriction_categorical.proofs.non_contiguous.NonContiguousCategoricalDecoderModel.cloned_entries.Goals as goal

pub returns-clause-stored : goal.returns-clause-stored
returns-clause-stored g c =
    let m = c.args.self.now in
    let whole = g.Probability.WholeNumber.whole in
    let is_clone = g.Symbol.Clone.is_clone in
    let entries = g.Cdf.SafeBuf.words_of m.cdf in
    let cloned = rw c.cdf_entries.ensures at c.entries_cloned.ensures in
    IfOk-weaker c.entries_cloned.result _ _
    (λ v clones.
    rw (cloned-words whole is_clone entries v.items clones)
    m.stored) cloned

pub returns-clause-distinct : goal.returns-clause-distinct
returns-clause-distinct g c =
    let m = c.args.self.now in
    let whole = g.Probability.WholeNumber.whole in
    let is_clone = g.Symbol.Clone.is_clone in
    let entries = g.Cdf.SafeBuf.words_of m.cdf in
    let cloned = rw c.cdf_entries.ensures at c.entries_cloned.ensures in
    IfOk-weaker c.entries_cloned.result _ _
    (λ v clones.
    distinct-clones g.Symbol.PartialEq.eq g.met.Symbol.Eq.laws is_clone c.requires _ _
    (cloned-symbols whole is_clone entries v.items clones) m.distinct) cloned

pub returns-clause-rows : goal.returns-clause-rows
returns-clause-rows g c =
    let whole = g.Probability.WholeNumber.whole in
    let entries = g.Cdf.SafeBuf.words_of c.args.self.now.cdf in
    let cloned = rw c.cdf_entries.ensures at c.entries_cloned.ensures in
    IfOk-weaker c.entries_cloned.result _ _
    (λ v clones. cloned-rows whole g.Symbol.Clone.is_clone g.row.PRECISION entries v.items clones) cloned
