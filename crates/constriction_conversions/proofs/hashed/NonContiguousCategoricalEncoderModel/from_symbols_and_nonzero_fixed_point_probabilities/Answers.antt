use Rattle.std.proofs.Common.{◌≡◌, map, ap, Err, rules, ◌∙◌}
use Rattle.constriction_model.specs.declared.error.ModelError.TheVariants.{InvalidTable}
use Rattle.std.specs.Option.{option_map}
use Rattle.std.specs.Map.{lookup}
use Rattle.std.specs.HashMap.{get}
use Rattle.std.specs.Set.{distinct_count}
use Rattle.std.proofs.lemmas.Map.Made.{distinct_count-from_IsDistinct}
use Rattle.constriction_model.specs.Acceptance.{AreAccepted, completed}
use Rattle.constriction_model.specs.Rows.{rows_of}
use Rattle.constriction_model.specs.lemmas.Coding.{rows-within}
use Rattle.constriction_model.specs.lemmas.Given.{decided-by_both}
use Rattle.constriction_conversions.proofs.HashLemmas.{table-rows_within, found-within, table-entry_of, table-count}
use Rattle.constriction_stored_rows.proofs.MadeLemmas.{made-unrefused, bad-both}
use Rattle.constriction_stored_rows.proofs.PairedLemmas.{accepted-tile, accepted-symbols}
use Rattle.constriction_conversions.proofs.hashed.NonContiguousCategoricalEncoderModel.from_symbols_and_nonzero_fixed_point_probabilities.Goals as goal

pub invariant_of-result : goal.invariant_of-result
invariant_of-result g c =
    let whole = g.Probability.WholeNumber.whole in
    let base = g.Probability.WholeNumber.base in
    let eq = g.Symbol.PartialEq.eq in
    let laws = g.met.Symbol.Eq.laws in
    let given = c.in_ok-read.ensures.ok in
    let weights = completed g.row.PRECISION c.args.infer_last_probability (map whole given.1) in
    let good = given.4 in
    let rows = rows_of given.0 weights in
    let tile = accepted-tile eq g.Probability.WholeNumber.BITS g.row.PRECISION given.0 weights good.0 in
    record {
      precise = c.requires.precision;
      distinct = good.1.0;
      within = table-rows_within eq laws (λ e. (whole e.left, whole (base e.weight))) g.row.PRECISION c.in_ok-read.read.table.entries
          good.1.0
          (found-within eq laws (λ e. (whole e.left, whole (base e.weight))) g.row.PRECISION rows (get eq c.in_ok-read.read.table)
          (rows-within g.Probability.WholeNumber.BITS g.row.PRECISION rows tile) good.1.1);
    }

pub returns : goal.returns
returns g c =
    let whole = g.Probability.WholeNumber.whole in
    let base = g.Probability.WholeNumber.base in
    let eq = g.Symbol.PartialEq.eq in
    let laws = g.met.Symbol.Eq.laws in
    let given = c.in_ok-read.ensures.ok in
    let weights = completed g.row.PRECISION c.args.infer_last_probability (map whole given.1) in
    let good = given.4 in
    let rows = rows_of given.0 weights in
    decided-by_both (AreAccepted g.Symbol.PartialEq.eq g.Probability.WholeNumber.BITS g.row.PRECISION) g.Probability.WholeNumber.BITS
    g.row.PRECISION c.args.infer_last_probability g.met.Probability.WholeNumber.number_law (λ ss ns a. a.tile.fit) _
    record {
      ok = (
        given.0,
        given.1,
        record {
          iterator = c.into_iter-symbols.result;
          became = c.into_iter-symbols.ensures.into_iter_gives;
          was_read = given.2;
        },
        record {
          iterator = c.into_iter-probabilities.result;
          became = c.into_iter-probabilities.ensures.into_iter_gives;
          was_read = given.3;
        },
        good.0,
        (
          (λ s. table-entry_of eq laws (λ e. (whole e.left, whole (base e.weight))) c.in_ok-read.read.table.entries s good.1.0
              ∙ good.1.1 s),
          table-count eq laws (λ e. (whole e.left, whole (base e.weight))) c.in_ok-read.read.table.entries rows good.1.0 good.1.1
              ∙ ap (distinct_count eq) (accepted-symbols eq g.Probability.WholeNumber.BITS g.row.PRECISION given.0 weights good.0)
              ∙ distinct_count-from_IsDistinct laws given.0 good.0.distinct,
        ),
      );
      invalid = λ e. absurd (made-unrefused _ _ e);
    }

pub rows_read-requires-clause-none : goal.rows_read-requires-clause-none
rows_read-requires-clause-none g c = (
  c.in_ok-table.ensures.unique,
  λ s. ap (option_map (λ e. (
    g.Probability.WholeNumber.whole e.left,
    g.Probability.WholeNumber.whole (g.Probability.WholeNumber.base e.weight),
  )))
      (ap (lookup (g.Symbol.PartialEq.eq s)) c.in_ok-table.ensures.empty),
)

pub rows_read-requires-clause-symbols_go : goal.rows_read-requires-clause-symbols_go
rows_read-requires-clause-symbols_go g c =
    (c.requires.symbols_end c.into_iter-symbols.result c.into_iter-symbols.ensures.into_iter_gives).0

pub rows_read-requires-clause-symbols_end : goal.rows_read-requires-clause-symbols_end
rows_read-requires-clause-symbols_end g c =
    (c.requires.symbols_end c.into_iter-symbols.result c.into_iter-symbols.ensures.into_iter_gives).1

pub rows_read-requires-clause-weights_go : goal.rows_read-requires-clause-weights_go
rows_read-requires-clause-weights_go g c =
    (c.requires.probabilities_end c.into_iter-probabilities.result c.into_iter-probabilities.ensures.into_iter_gives).0

pub rows_read-requires-clause-weights_end : goal.rows_read-requires-clause-weights_end
rows_read-requires-clause-weights_end g c =
    (c.requires.probabilities_end c.into_iter-probabilities.result c.into_iter-probabilities.ensures.into_iter_gives).1

pub returns-in_err-read : goal.returns-in_err-read
returns-in_err-read g c =
    decided-by_both (AreAccepted g.Symbol.PartialEq.eq g.Probability.WholeNumber.BITS g.row.PRECISION) g.Probability.WholeNumber.BITS
    g.row.PRECISION c.args.infer_last_probability g.met.Probability.WholeNumber.number_law (λ ss ns a. a.tile.fit) _
    record {
      ok = search rules;
      invalid = λ h.
          let e : c.rows_read.result ≡ Err InvalidTable = search rules in
          bad-both g.S.IntoIterator.into_iter_gives g.S.IntoIter.Iterator.next_gives c.args.symbols g.P.IntoIterator.into_iter_gives
          g.P.IntoIter.Iterator.next_gives c.args.probabilities
          (λ ss ws. AreAccepted g.Symbol.PartialEq.eq g.Probability.WholeNumber.BITS g.row.PRECISION ss
          (completed g.row.PRECISION c.args.infer_last_probability (map g.Probability.WholeNumber.whole ws))) (
            c.into_iter-symbols.result,
            c.into_iter-symbols.ensures.into_iter_gives,
            c.into_iter-probabilities.result,
            c.into_iter-probabilities.ensures.into_iter_gives,
            c.rows_read.ensures.invalid e,
          );
    }
