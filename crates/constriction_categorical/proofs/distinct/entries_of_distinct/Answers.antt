use Rattle.constriction_model.specs.Acceptance.{WasReadOf}
use Rattle.constriction_model.specs.lemmas.Given.{distinct-read}
use Rattle.constriction_categorical.proofs.ReadEntries.{apart-makes}
use Rattle.constriction_categorical.proofs.distinct.entries_of_distinct.Goals as goal

pub returns : goal.returns
returns g c =
    apart-makes g.Probability.WholeNumber.whole g.Probability.WholeNumber.BITS g.row.PRECISION c.args.infer_last_probability
    (WasReadOf g.S.IntoIterator.into_iter_gives g.S.IntoIter.Iterator.next_gives c.args.symbols)
    (WasReadOf g.P.IntoIterator.into_iter_gives g.P.IntoIter.Iterator.next_gives c.args.probabilities)
    g.Symbol.PartialEq.eq (distinct-read _ _ g.Symbol.PartialEq.eq c.args.symbols c.requires.distinct) c.entries_read.result
    c.entries_read.ensures
