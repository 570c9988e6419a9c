use Rattle.std.proofs.Common.{◌≡◌, true, false, Err, sym, ◌∙◌, rules}
use Rattle.std.specs.List.{IsDistinct}
use Rattle.constriction_model.specs.declared.error.ModelError.TheVariants.{InvalidTable}
use Rattle.constriction_model.specs.Acceptance.{AreAccepted, WasReadOf}
use Rattle.constriction_categorical.proofs.ReadEntries.{judged-makes, judged-refused, read-refused}
use Rattle.constriction_categorical.proofs.distinct.entries_hashed.Goals as goal

pub returns-in_err-entries : goal.returns-in_err-entries
returns-in_err-entries g c = record {
  made = record {
    ok = search rules;
    invalid = λ h.
        let e : c.entries_read.result ≡ Err InvalidTable = search rules in
        read-refused g.Probability.WholeNumber.whole g.Probability.WholeNumber.BITS g.row.PRECISION c.args.infer_last_probability
        (WasReadOf g.S.IntoIterator.into_iter_gives g.S.IntoIter.Iterator.next_gives c.args.symbols)
        (WasReadOf g.P.IntoIterator.into_iter_gives g.P.IntoIter.Iterator.next_gives c.args.probabilities)
        g.Symbol.PartialEq.eq (AreAccepted g.Symbol.PartialEq.eq g.Probability.WholeNumber.BITS g.row.PRECISION)
        (λ ss ws good. good) c.entries_read.result c.entries_read.ensures e;
  };
  stored = search rules;
  distinct = search rules;
}

pub returns-then-not-apart : goal.returns-then-not-apart
returns-then-not-apart g c = record {
  made = record {
    ok = tt;
    invalid = λ _.
        judged-refused g.Probability.WholeNumber.whole g.Probability.WholeNumber.BITS g.row.PRECISION c.args.infer_last_probability
        (WasReadOf g.S.IntoIterator.into_iter_gives g.S.IntoIter.Iterator.next_gives c.args.symbols)
        (WasReadOf g.P.IntoIterator.into_iter_gives g.P.IntoIter.Iterator.next_gives c.args.probabilities)
        g.Symbol.PartialEq.eq c.in_ok-entries.entries c.in_ok-entries.ensures (IsDistinct g.Symbol.PartialEq.eq)
        (AreAccepted g.Symbol.PartialEq.eq g.Probability.WholeNumber.BITS g.row.PRECISION) (λ ss ws good. good.distinct)
        (λ good.
        let found : true ≡ false = sym (c.in_ok-apart.ensures.1 (rw c.deref.ensures.value good)) ∙ c.if-not-apart.true
        in cc);
  };
  stored = tt;
  distinct = tt;
}

pub returns : goal.returns
returns g c =
    let apart = rw c.deref.ensures.value at (c.in_ok-apart.ensures.0 c.if-not-apart.false) in
    judged-makes g.Probability.WholeNumber.whole g.Probability.WholeNumber.BITS g.row.PRECISION c.args.infer_last_probability
    (WasReadOf g.S.IntoIterator.into_iter_gives g.S.IntoIter.Iterator.next_gives c.args.symbols)
    (WasReadOf g.P.IntoIterator.into_iter_gives g.P.IntoIter.Iterator.next_gives c.args.probabilities)
    g.Symbol.PartialEq.eq c.in_ok-entries.entries c.in_ok-entries.ensures (IsDistinct g.Symbol.PartialEq.eq)
    (AreAccepted g.Symbol.PartialEq.eq g.Probability.WholeNumber.BITS g.row.PRECISION) (λ ss ws good _. good) apart apart
