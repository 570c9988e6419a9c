use Rattle.std.proofs.Common.{◌<◌, arith}
use Rattle.constriction_stored_rows.specs.Stored.{rows_paired}
use Rattle.constriction_model.proofs.StepLemmas.{none-between, fewer-first}
use Rattle.constriction_stored_rows.proofs.PairedLemmas.{paired-first}
use Rattle.constriction_categorical.proofs.non_contiguous_table.NonContiguousSymbolTableIterator.next.Goals as goal

pub returns-in-Ok : goal.returns-in-Ok
returns-in-Ok g c =
    let t = c.args.self.now in
    let some : t.from < t.to = c.in-Some.ensures.some.0 in
    let whole = g.Probability.WholeNumber.whole in
    let bits = g.Probability.WholeNumber.BITS in
    let step = paired-first whole bits g.row.PRECISION t.entries.now t.stored
    t.from t.to _ _ c.index-self-index.result some t.in_bounds c.index-self-index.is c.paired_row_ending_at-left.ensures.left
    c.paired_row_ending_at-left.ensures.weight in
    record {
      steps = (c.index-self-index.result.1, rw (← c.index-self-index.is) at c.in-Ok.ensures.cases, step);
      goes = record { on = λ _. (tt, tt, fewer-first _ _ _ step); keeps = tt; rests = λ _. tt };
    }

pub returns-in-Err : goal.returns-in-Err
returns-in-Err g c =
    let t = c.args.self.now in
    let some : t.from < t.to = c.in-Some.ensures.some.0 in
    let whole = g.Probability.WholeNumber.whole in
    let bits = g.Probability.WholeNumber.BITS in
    let step = paired-first whole bits g.row.PRECISION t.entries.now t.stored
    t.from t.to _ _ c.index-self-index.result some t.in_bounds c.index-self-index.is c.paired_row_ending_at-left.ensures.left
    c.paired_row_ending_at-left.ensures.weight in
    record {
      steps = (_, rw (← c.index-self-index.is) at c.in-Err.ensures.cases, step);
      goes = record { on = λ _. (tt, tt, fewer-first _ _ _ step); keeps = tt; rests = λ _. tt };
    }

pub returns-in_default : goal.returns-in_default
returns-in_default g c =
    let t = c.args.self.now in
    let rows = rows_paired g.Probability.WholeNumber.whole g.row.PRECISION t.entries.now in
    record {
      steps = none-between rows t.from t.to c.in_default.ensures.none;
      goes = record { on = λ _. tt; keeps = tt; rests = λ _. tt };
    }

pub invariant_of-self : goal.invariant_of-self
invariant_of-self g c =
    let t = c.args.self.now in
    record {
      precise = t.precise;
      stored = t.stored;
      in_order = omega (arith, c.in-Some.ensures.some.0);
      in_bounds = t.in_bounds;
    }

pub paired_row_ending_at-left-requires-clause-end : goal.paired_row_ending_at-left-requires-clause-end
paired_row_ending_at-left-requires-clause-end g c = c.in-Some.ensures.some.1

pub end_in_walk-requires-clause-precision : goal.end_in_walk-requires-clause-precision
end_in_walk-requires-clause-precision g c = c.args.self.now.precise

pub end_in_walk-requires-clause-order : goal.end_in_walk-requires-clause-order
end_in_walk-requires-clause-order g c = c.args.self.now.in_order

pub end_in_walk-requires-clause-in_bounds : goal.end_in_walk-requires-clause-in_bounds
end_in_walk-requires-clause-in_bounds g c = c.args.self.now.in_bounds

pub paired_row_ending_at-left-requires-clause-fits : goal.paired_row_ending_at-left-requires-clause-fits
paired_row_ending_at-left-requires-clause-fits g c = c.args.self.now.precise.fits

pub paired_row_ending_at-left-requires-clause-stored : goal.paired_row_ending_at-left-requires-clause-stored
paired_row_ending_at-left-requires-clause-stored g c = c.args.self.now.stored

pub paired_row_ending_at-left-requires-clause-in_bounds : goal.paired_row_ending_at-left-requires-clause-in_bounds
paired_row_ending_at-left-requires-clause-in_bounds g c = omega (arith, c.in-Some.ensures.some.0, c.args.self.now.in_bounds)
