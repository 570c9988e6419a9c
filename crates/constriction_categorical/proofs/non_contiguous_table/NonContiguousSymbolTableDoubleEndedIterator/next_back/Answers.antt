use Rattle.std.proofs.Common.{◌<◌, arith}
use Rattle.constriction_stored_rows.specs.Stored.{rows_paired}
use Rattle.constriction_model.proofs.StepLemmas.{none-between, fewer-last}
use Rattle.constriction_stored_rows.proofs.PairedLemmas.{paired-last}
use Rattle.constriction_categorical.proofs.non_contiguous_table.NonContiguousSymbolTableDoubleEndedIterator.next_back.Goals as goal

pub returns-then-self : goal.returns-then-self
returns-then-self g c =
    let t = c.args.self.now in
    let rows = rows_paired g.Probability.WholeNumber.whole g.row.PRECISION t.entries.now in
    record { steps = none-between rows t.from t.to c.if-self.true; goes = record { on = λ _. tt; keeps = tt; rests = λ _. tt } }

pub returns-in-Ok : goal.returns-in-Ok
returns-in-Ok g c =
    let t = c.args.self.now in
    let some : t.from < t.to = omega (arith, t.in_order, c.if-self.false) in
    let whole = g.Probability.WholeNumber.whole in
    let bits = g.Probability.WholeNumber.BITS in
    let step = paired-last whole bits g.row.PRECISION t.entries.now t.stored
    t.from t.to _ _ c.index-self-index.result some t.in_bounds c.index-self-index.is c.paired_row_at-left.ensures.left
    c.paired_row_at-left.ensures.weight in
    record {
      steps = (c.index-self-index.result.1, rw (← c.index-self-index.is) at c.in-Ok.ensures.cases, step);
      goes = record { on = λ _. (tt, tt, fewer-last _ _ _ step); keeps = tt; rests = λ _. tt };
    }

pub returns-in-Err : goal.returns-in-Err
returns-in-Err g c =
    let t = c.args.self.now in
    let some : t.from < t.to = omega (arith, t.in_order, c.if-self.false) in
    let whole = g.Probability.WholeNumber.whole in
    let bits = g.Probability.WholeNumber.BITS in
    let step = paired-last whole bits g.row.PRECISION t.entries.now t.stored
    t.from t.to _ _ c.index-self-index.result some t.in_bounds c.index-self-index.is c.paired_row_at-left.ensures.left
    c.paired_row_at-left.ensures.weight in
    record {
      steps = (_, rw (← c.index-self-index.is) at c.in-Err.ensures.cases, step);
      goes = record { on = λ _. (tt, tt, fewer-last _ _ _ step); keeps = tt; rests = λ _. tt };
    }

pub invariant_of-self : goal.invariant_of-self
invariant_of-self g c =
    let t = c.args.self.now in
    record {
      precise = t.precise;
      stored = t.stored;
      in_order = omega (arith, t.in_order, c.if-self.false);
      in_bounds = omega (arith, t.in_bounds);
    }
