use Rattle.std.proofs.Common.{◌<◌, length, map, refl, arith}
use Rattle.std.proofs.lemmas.List.{length-map}
use Rattle.constriction_model.specs.Rows.{contiguous_rows}
use Rattle.constriction_stored_rows.specs.Stored.{lefts_in, weights_of}
use Rattle.constriction_stored_rows.proofs.StoredSteps.{last-stored}
use Rattle.constriction_model.proofs.StepLemmas.{fewer-last, none-between}
use Rattle.constriction_categorical.proofs.symbol_table.ContiguousSymbolTableDoubleEndedIterator.next_back.Goals as goal

pub returns-then-self : goal.returns-then-self
returns-then-self g c =
    let t = c.args.self.now in
    let rows = contiguous_rows (weights_of g.row.PRECISION (lefts_in (map g.Probability.WholeNumber.whole t.cdf.now))) in
    record { steps = none-between rows t.from t.to c.if-self.true; goes = record { on = λ _. tt; keeps = tt; rests = λ _. tt } }

pub returns : goal.returns
returns g c =
    let t = c.args.self.now in
    let table = map g.Probability.WholeNumber.whole t.cdf.now in
    let some : t.from < t.to = omega (arith, t.in_order, c.if-self.false) in
    let within : t.to < length table = omega (arith, t.in_bounds, length-map t.cdf.now g.Probability.WholeNumber.whole) in
    let step = last-stored g.Probability.WholeNumber.BITS g.row.PRECISION table t.stored t.from t.to _ _ some within
    c.cdf_row_at-left.ensures.left c.cdf_row_at-left.ensures.weight in
    record {
      steps = (_, refl, step);
      goes = record { on = λ _. (tt, tt, fewer-last _ _ _ step); keeps = tt; rests = λ _. tt };
    }

pub invariant_of-self : goal.invariant_of-self
invariant_of-self g c =
    let t = c.args.self.now in
    record {
      narrow = t.narrow;
      stored = t.stored;
      in_order = omega (arith, t.in_order, c.if-self.false);
      in_bounds = omega (arith, t.in_bounds);
    }
