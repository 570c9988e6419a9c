use Rattle.std.proofs.Common.{◌≡◌, false, Err, map, refl, rules}
use Rattle.constriction_model.specs.declared.error.ModelError.TheVariants.{InvalidTable}
use Rattle.constriction_model.specs.Acceptance.{AreAccepted, completed}
use Rattle.constriction_stored_rows.proofs.MadeLemmas.{made-unrefused, bad-both}
use Rattle.constriction_stored_rows.proofs.uncompared.entries_read.Goals as goal

pub rows_read-requires-clause-none : goal.rows_read-requires-clause-none
rows_read-requires-clause-none g c = rw c.in_ok-entries.ensures.items (refl, refl)

pub rows_read-requires-clause-symbols_go : goal.rows_read-requires-clause-symbols_go
rows_read-requires-clause-symbols_go g c =
    (c.requires.symbols_end c.into_iter-symbols.result c.into_iter-symbols.ensures.into_iter_gives).0

pub rows_read-requires-clause-symbols_end : goal.rows_read-requires-clause-symbols_end
rows_read-requires-clause-symbols_end g c =
    (c.requires.symbols_end c.into_iter-symbols.result c.into_iter-symbols.ensures.into_iter_gives).1

pub rows_read-requires-clause-weights_go : goal.rows_read-requires-clause-weights_go
rows_read-requires-clause-weights_go g c = (c.requires.weights_end c.into_iter-weights.result c.into_iter-weights.ensures.into_iter_gives).0

pub rows_read-requires-clause-weights_end : goal.rows_read-requires-clause-weights_end
rows_read-requires-clause-weights_end g c =
    (c.requires.weights_end c.into_iter-weights.result c.into_iter-weights.ensures.into_iter_gives).1

pub returns : goal.returns
returns g c =
    let read = c.in_ok-read.ensures.ok in
    record {
      ok = (
        read.0,
        read.1,
        record {
          iterator = c.into_iter-symbols.result;
          became = c.into_iter-symbols.ensures.into_iter_gives;
          was_read = read.2;
        },
        record { iterator = c.into_iter-weights.result; became = c.into_iter-weights.ensures.into_iter_gives; was_read = read.3 },
        read.4.0,
        read.4.1,
      );
      invalid = λ e. absurd (made-unrefused _ _ e);
    }

pub returns-in_err-read : goal.returns-in_err-read
returns-in_err-read g c = record {
  ok = search rules;
  invalid = λ h.
      let e : c.rows_read.result ≡ Err InvalidTable = search rules in
      bad-both g.Symbols.IntoIterator.into_iter_gives g.Symbols.IntoIter.Iterator.next_gives c.args.symbols
      g.Weights.IntoIterator.into_iter_gives g.Weights.IntoIter.Iterator.next_gives c.args.weights
      (λ ss ws. AreAccepted (λ _ _. false) g.Word.WholeNumber.BITS g.row.PRECISION ss
      (completed g.row.PRECISION c.args.infer_last (map g.Word.WholeNumber.whole ws))) (
        c.into_iter-symbols.result,
        c.into_iter-symbols.ensures.into_iter_gives,
        c.into_iter-weights.result,
        c.into_iter-weights.ensures.into_iter_gives,
        c.rows_read.ensures.invalid e,
      );
}
