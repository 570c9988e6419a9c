use Rattle.std.proofs.Common.{map, arith}
use Rattle.std.proofs.lemmas.List.{length-map}
use Rattle.constriction_model.specs.Acceptance.{completed}
use Rattle.constriction_stored_rows.proofs.CdfLemmas.{cdf-rows}
use Rattle.constriction_categorical.proofs.Refilled.{refilled-cdf, refilled-rows}
use Rattle.constriction_categorical.proofs.contiguous.ContiguousCategoricalEntropyModel+Probability+Vec+Probability+PRECISION.set_weights.Goals as goal

pub invariant_of-self : goal.invariant_of-self
invariant_of-self g c =
    let whole = g.Probability.WholeNumber.whole in
    let old = c.args.self.now.cdf.items in
    let new = c.refill_cdf.new.cdf.items in
    let weights = completed g.row.PRECISION c.args.infer_last_probability (map whole c.args.weights.now) in
    record {
      precise = c.args.self.now.precise;
      stored = refilled-cdf whole g.Probability.WholeNumber.BITS g.row.PRECISION old new weights c.refill_cdf.result c.args.self.now.stored
          c.refill_cdf.ensures.accepted c.refill_cdf.ensures.ok c.refill_cdf.ensures.err;
    }

pub returns-clause-rows : goal.returns-clause-rows
returns-clause-rows g c =
    let whole = g.Probability.WholeNumber.whole in
    let weights = completed g.row.PRECISION c.args.infer_last_probability (map whole c.args.weights.now) in
    refilled-rows whole g.Probability.WholeNumber.BITS g.row.PRECISION c.args.self.now.cdf.items c.refill_cdf.new.cdf.items weights
    c.refill_cdf.result c.refill_cdf.ensures.accepted c.refill_cdf.ensures.ok

pub returns-clause-memory : goal.returns-clause-memory
returns-clause-memory g c = λ e.
    let words = map g.Probability.WholeNumber.whole c.args.self.now.cdf.items in
    omega (
      arith,
      c.refill_cdf.ensures.memory e,
      cdf-rows g.Probability.WholeNumber.BITS g.row.PRECISION words c.args.self.now.stored,
      length-map c.args.self.now.cdf.items g.Probability.WholeNumber.whole,
      c.args.self.now.cdf.ok.0,
    )
