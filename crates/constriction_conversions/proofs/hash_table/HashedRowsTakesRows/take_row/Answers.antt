use Rattle.std.proofs.Common.{true, false}
use Rattle.std.specs.HashMap.{get}
use Rattle.constriction_conversions.proofs.HashLemmas.{hashed-member}
use Rattle.constriction_conversions.proofs.hash_table.HashedRowsTakesRows.take_row.Goals as goal

pub returns-clause-apart : goal.returns-clause-apart
returns-clause-apart g c = λ ok rows h.
    let whole = g.Probability.WholeNumber.whole in
    let base = g.Probability.WholeNumber.base in
    let eq = g.Symbol.PartialEq.eq in
    hashed-member eq g.met.Symbol.Eq.laws (λ e. (whole e.left, whole (base e.weight))) rows (get eq c.args.self.now.table) c.args.symbol
    false h.1
    (c.insert_apart.ensures.apart ok)

pub returns-clause-repeated : goal.returns-clause-repeated
returns-clause-repeated g c = λ bad rows h.
    let whole = g.Probability.WholeNumber.whole in
    let base = g.Probability.WholeNumber.base in
    let eq = g.Symbol.PartialEq.eq in
    hashed-member eq g.met.Symbol.Eq.laws (λ e. (whole e.left, whole (base e.weight))) rows (get eq c.args.self.now.table) c.args.symbol
    true h.1
    (c.insert_apart.ensures.repeated bad)
