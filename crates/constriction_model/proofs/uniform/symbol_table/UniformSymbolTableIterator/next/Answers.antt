use Rattle.std.proofs.Common.{ℕ, ◌+◌, ◌<◌, ◌≤◌, refl, arith}
use Rattle.constriction_model.specs.Rows.{uniform_rows}
use Rattle.constriction_model.specs.lemmas.UniformRows.{uniform-at, length-uniform_rows}
use Rattle.constriction_model.proofs.StepLemmas.{first-between, fewer-first, none-between}
use Rattle.constriction_model.proofs.uniform.symbol_table.UniformSymbolTableIterator.next.Goals as goal

pub returns-then-self : goal.returns-then-self
returns-then-self g c =
    let t = c.args.self.now in
    let rows = uniform_rows g.row.PRECISION (g.Probability.WholeNumber.whole t.model.last_symbol + 1) in
    record { steps = none-between rows t.from t.to c.if-self.true; goes = record { on = λ _. tt; keeps = tt; rests = λ _. tt } }

pub returns : goal.returns
returns g c =
    let t = c.args.self.now in
    let last : ℕ = g.Probability.WholeNumber.whole t.model.last_symbol in
    let rows = uniform_rows g.row.PRECISION (last + 1) in
    let row = c.row_words_of-left.ensures in
    let many = length-uniform_rows g.row.PRECISION last in
    let below : t.from < t.to = omega (arith, t.in_order, c.if-self.false) in
    let within : t.to ≤ last + 1 = t.in_bounds in
    let here = uniform-at g.row.PRECISION last t.model.within t.from _ _ _ c.from_number.ensures row.left row.weight _ (omega arith) in
    let first = first-between rows t.from t.to _ below (omega arith) here in
    record {
      steps = (_, refl, first);
      goes = record { on = λ _. (tt, tt, fewer-first _ _ _ first); keeps = tt; rests = λ _. tt };
    }

pub invariant_of-self : goal.invariant_of-self
invariant_of-self g c =
    let t = c.args.self.now in
    record {
      in_order = omega (arith, t.in_order, c.if-self.false);
      in_bounds = t.in_bounds;
      bin = t.bin;
      rest = t.rest;
    }
