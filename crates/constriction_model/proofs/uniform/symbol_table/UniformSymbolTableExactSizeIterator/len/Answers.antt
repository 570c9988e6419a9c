use Rattle.std.proofs.Common.{◌+◌, sym, arith}
use Rattle.constriction_model.specs.Rows.{uniform_rows}
use Rattle.constriction_model.specs.lemmas.UniformRows.{length-uniform_rows}
use Rattle.constriction_model.proofs.StepLemmas.{length-between}
use Rattle.constriction_model.proofs.uniform.symbol_table.UniformSymbolTableExactSizeIterator.len.Goals as goal

pub returns-clause-value : goal.returns-clause-value
returns-clause-value g c =
    let t = c.args.self.now in
    let last = g.Probability.WholeNumber.whole t.model.last_symbol in
    let many = length-uniform_rows g.row.PRECISION last in
    sym (length-between (uniform_rows g.row.PRECISION (last + 1)) t.from t.to (omega (arith, t.in_bounds)))
