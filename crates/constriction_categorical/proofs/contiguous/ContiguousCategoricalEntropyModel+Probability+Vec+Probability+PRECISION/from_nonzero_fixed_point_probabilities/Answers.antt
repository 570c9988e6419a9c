use Rattle.std.proofs.Common.{◌≡◌, map, ap, Err, rules}
use Rattle.constriction_model.specs.declared.error.ModelError.TheVariants.{InvalidTable}
use Rattle.constriction_model.specs.Acceptance.{completed, IsAccepted}
use Rattle.constriction_model.specs.Rows.{contiguous_rows}
use Rattle.constriction_model.specs.lemmas.Given.{decided-by_weights}
use Rattle.constriction_stored_rows.proofs.MadeLemmas.{made-unrefused, bad-read}
use Rattle.constriction_stored_rows.proofs.CdfLemmas.{cdf-of}
use Rattle.constriction_categorical.proofs.contiguous.ContiguousCategoricalEntropyModel+Probability+Vec+Probability+PRECISION.from_nonzero_fixed_point_probabilities.Goals as goal

pub invariant_of-result : goal.invariant_of-result
invariant_of-result g c =
    let whole = g.Probability.WholeNumber.whole in
    let given = c.in_ok-cdf.ensures.ok in
    let good = given.2.2 in
    let weights = completed g.row.PRECISION c.args.infer_last_probability (map whole given.2.0) in
    record {
      precise = c.requires.precision;
      stored = (cdf-of g.Probability.WholeNumber.BITS g.row.PRECISION (map whole c.in_ok-cdf.cdf.items) weights good.0 good.1).0;
    }

pub returns : goal.returns
returns g c =
    let whole = g.Probability.WholeNumber.whole in
    let given = c.in_ok-cdf.ensures.ok in
    let good = given.2.2 in
    let weights = completed g.row.PRECISION c.args.infer_last_probability (map whole given.2.0) in
    let table = cdf-of g.Probability.WholeNumber.BITS g.row.PRECISION (map whole c.in_ok-cdf.cdf.items) weights good.0 good.1 in
    decided-by_weights g.Probability.WholeNumber.BITS g.row.PRECISION c.args.infer_last_probability
    g.met.Probability.WholeNumber.number_law _
    record {
      ok = (given.2.0, record { iterator = given.0; became = given.1; was_read = given.2.1 }, good.0, ap contiguous_rows table.1);
      invalid = λ e. absurd (made-unrefused _ _ e);
    }

pub returns-in_err-cdf : goal.returns-in_err-cdf
returns-in_err-cdf g c =
    let whole = g.Probability.WholeNumber.whole in
    decided-by_weights g.Probability.WholeNumber.BITS g.row.PRECISION c.args.infer_last_probability
    g.met.Probability.WholeNumber.number_law _
    record {
      ok = search rules;
      invalid = λ h.
          let e : c.cdf_of.result ≡ Err InvalidTable = search rules in
          bad-read g.I.IntoIterator.into_iter_gives g.I.IntoIter.Iterator.next_gives c.args.probabilities
          (λ ws. IsAccepted g.Probability.WholeNumber.BITS g.row.PRECISION
          (completed g.row.PRECISION c.args.infer_last_probability (map whole ws))) (c.cdf_of.ensures.invalid e);
    }
