use Rattle.std.proofs.Common.{◌≡◌, true, false, Err, sym, ◌∙◌, rules}
use Rattle.std.specs.List.Sorted.{IsStrictlySortedBy}
use Rattle.constriction_model.specs.declared.error.ModelError.TheVariants.{InvalidTable}
use Rattle.constriction_model.specs.Acceptance.{AreAccepted, WasReadOf}
use Rattle.constriction_categorical.proofs.ReadEntries.{judged-makes, judged-refused, read-refused}
use Rattle.constriction_stored_rows.proofs.OrderLemmas.{sorted-distinct}
use Rattle.constriction_categorical.proofs.distinct.entries_in_order.Goals as goal

pub returns-in_err-entries : goal.returns-in_err-entries
returns-in_err-entries g c = record {
  made = record {
    ok = search rules;
    invalid = λ h.
        let e : c.entries_read.result ≡ Err InvalidTable = search rules in
        read-refused g.Probability.WholeNumber.whole g.Probability.WholeNumber.BITS g.row.PRECISION c.args.infer_last_probability
        (WasReadOf g.S.IntoIterator.into_iter_gives g.S.IntoIter.Iterator.next_gives c.args.symbols)
        (WasReadOf g.P.IntoIterator.into_iter_gives g.P.IntoIter.Iterator.next_gives c.args.probabilities)
        g.Symbol.PartialEq.eq
        (λ ss ws. AreAccepted g.Symbol.PartialEq.eq g.Probability.WholeNumber.BITS g.row.PRECISION ss ws
        × IsStrictlySortedBy g.Symbol.Ord.cmp ss)
        (λ ss ws good. good.0) c.entries_read.result c.entries_read.ensures e;
  };
  stored = search rules;
  distinct = search rules;
}

pub returns-then-not-in_order : goal.returns-then-not-in_order
returns-then-not-in_order g c = record {
  made = record {
    ok = tt;
    invalid = λ _.
        judged-refused g.Probability.WholeNumber.whole g.Probability.WholeNumber.BITS g.row.PRECISION c.args.infer_last_probability
        (WasReadOf g.S.IntoIterator.into_iter_gives g.S.IntoIter.Iterator.next_gives c.args.symbols)
        (WasReadOf g.P.IntoIterator.into_iter_gives g.P.IntoIter.Iterator.next_gives c.args.probabilities)
        g.Symbol.PartialEq.eq c.in_ok-entries.entries c.in_ok-entries.ensures (IsStrictlySortedBy g.Symbol.Ord.cmp)
        (λ ss ws. AreAccepted g.Symbol.PartialEq.eq g.Probability.WholeNumber.BITS g.row.PRECISION ss ws
        × IsStrictlySortedBy g.Symbol.Ord.cmp ss)
        (λ ss ws good. good.1)
        (λ good.
        let found : true ≡ false = sym (c.are_in_order-in_order.ensures.1 (rw c.deref.ensures.value good)) ∙ c.if-not-in_order.true
        in cc);
  };
  stored = tt;
  distinct = tt;
}

pub returns : goal.returns
returns g c =
    let sorted = rw c.deref.ensures.value at (c.are_in_order-in_order.ensures.0 c.if-not-in_order.false) in
    judged-makes g.Probability.WholeNumber.whole g.Probability.WholeNumber.BITS g.row.PRECISION c.args.infer_last_probability
    (WasReadOf g.S.IntoIterator.into_iter_gives g.S.IntoIter.Iterator.next_gives c.args.symbols)
    (WasReadOf g.P.IntoIterator.into_iter_gives g.P.IntoIter.Iterator.next_gives c.args.probabilities)
    g.Symbol.PartialEq.eq c.in_ok-entries.entries c.in_ok-entries.ensures (IsStrictlySortedBy g.Symbol.Ord.cmp)
    (λ ss ws. AreAccepted g.Symbol.PartialEq.eq g.Probability.WholeNumber.BITS g.row.PRECISION ss ws
    × IsStrictlySortedBy g.Symbol.Ord.cmp ss)
    (λ ss ws good sorted. (good, sorted))
    (sorted-distinct g.Symbol.PartialEq.eq g.Symbol.Ord.cmp g.met.Symbol.Ord.matches_eq _ sorted) sorted
