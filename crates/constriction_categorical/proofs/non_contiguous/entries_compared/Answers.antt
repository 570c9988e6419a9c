use Rattle.std.proofs.Common.{refl}
use Rattle.constriction_model.specs.Acceptance.{AreAccepted, WasReadOf, completed}
use Rattle.constriction_model.specs.Rows.{rows_of}
use Rattle.constriction_stored_rows.specs.private.Filling.{HoldsRows}
use Rattle.constriction_categorical.proofs.ReadEntries.{all-makes, read-of_both}
use Rattle.constriction_categorical.proofs.non_contiguous.entries_compared.Goals as goal

pub rows_read-requires-clause-none : goal.rows_read-requires-clause-none
rows_read-requires-clause-none g c =
    rw c.in_ok-room.ensures.items (refl, refl)

pub rows_read-requires-clause-symbols_go : goal.rows_read-requires-clause-symbols_go
rows_read-requires-clause-symbols_go g c =
    (c.requires.symbols_end c.into_iter-symbols.result c.into_iter-symbols.ensures.into_iter_gives).0

pub rows_read-requires-clause-symbols_end : goal.rows_read-requires-clause-symbols_end
rows_read-requires-clause-symbols_end g c =
    (c.requires.symbols_end c.into_iter-symbols.result c.into_iter-symbols.ensures.into_iter_gives).1

pub rows_read-requires-clause-weights_go : goal.rows_read-requires-clause-weights_go
rows_read-requires-clause-weights_go g c =
    (c.requires.probabilities_end c.into_iter-probabilities.result c.into_iter-probabilities.ensures.into_iter_gives).0

pub rows_read-requires-clause-weights_end : goal.rows_read-requires-clause-weights_end
rows_read-requires-clause-weights_end g c =
    (c.requires.probabilities_end c.into_iter-probabilities.result c.into_iter-probabilities.ensures.into_iter_gives).1

pub returns : goal.returns
returns g c =
    all-makes g.Probability.WholeNumber.whole g.Probability.WholeNumber.BITS g.row.PRECISION c.args.infer_last_probability
    (WasReadOf g.S.IntoIterator.into_iter_gives g.S.IntoIter.Iterator.next_gives c.args.symbols)
    (WasReadOf g.P.IntoIterator.into_iter_gives g.P.IntoIter.Iterator.next_gives c.args.probabilities)
    g.Symbol.PartialEq.eq c.rows_read.result
    (read-of_both g.S.IntoIterator.into_iter_gives g.S.IntoIter.Iterator.next_gives c.args.symbols
    g.P.IntoIterator.into_iter_gives g.P.IntoIter.Iterator.next_gives c.args.probabilities
    (AreAccepted g.Symbol.PartialEq.eq g.Probability.WholeNumber.BITS g.row.PRECISION)
    (completed g.row.PRECISION c.args.infer_last_probability)
    g.Probability.WholeNumber.whole (λ v ss ws. HoldsRows g.Probability.WholeNumber.whole v.items (rows_of ss ws))
    c.into_iter-symbols.result c.into_iter-symbols.ensures.into_iter_gives c.into_iter-probabilities.result
    c.into_iter-probabilities.ensures.into_iter_gives c.rows_read.result c.rows_read.ensures.ok c.rows_read.ensures.invalid)
