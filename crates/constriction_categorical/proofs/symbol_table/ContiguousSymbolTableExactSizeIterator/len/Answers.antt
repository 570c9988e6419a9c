use Rattle.std.proofs.Common.{◌<◌, length, map, sym, arith}
use Rattle.std.proofs.lemmas.List.{length-map}
use Rattle.constriction_stored_rows.proofs.StoredSteps.{length-stored}
use Rattle.constriction_categorical.proofs.symbol_table.ContiguousSymbolTableExactSizeIterator.len.Goals as goal

pub returns-clause-value : goal.returns-clause-value
returns-clause-value g c =
    let t = c.args.self.now in
    let table = map g.Probability.WholeNumber.whole t.cdf.now in
    let within : t.to < length table = omega (arith, t.in_bounds, length-map t.cdf.now g.Probability.WholeNumber.whole) in
    sym (length-stored g.Probability.WholeNumber.BITS g.row.PRECISION table t.stored t.from t.to within)
