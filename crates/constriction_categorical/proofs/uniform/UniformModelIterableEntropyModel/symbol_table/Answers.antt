use Rattle.std.proofs.Common.{◌+◌, ◌≡◌, sym}
use Rattle.constriction_model.specs.Rows.{uniform_rows}
use Rattle.constriction_model.specs.Tables.{rows_between}
use Rattle.constriction_model.specs.lemmas.UniformRows.{length-uniform_rows}
use Rattle.constriction_model.proofs.StepLemmas.{all-between, same-most}
use Rattle.constriction_categorical.proofs.uniform.UniformModelIterableEntropyModel.symbol_table.Goals as goal

pub returns : goal.returns
returns g c =
    let whole = g.Probability.WholeNumber.whole in
    let last = whole c.args.self.last_symbol in
    let rows = uniform_rows g.row.PRECISION (last + 1) in
    let t = c.new.result in
    let all : rows_between t.from t.to (uniform_rows g.row.PRECISION (whole t.model.last_symbol + 1)) ≡ rows =
    rw (c.new.ensures.model, c.new.ensures.from, c.new.ensures.to)
    (all-between rows (last + 1) (sym (length-uniform_rows g.row.PRECISION last))) in
    record { all = all; callable = tt; ends = (tt, same-most _ _ all) }
