use Rattle.std.proofs.Common.{vec_items}
use Rattle.std.proofs.lemmas.Result.{err_from_is_err_and}
use Rattle.constriction_model.specs.Acceptance.{AreAccepted}
use Rattle.constriction_model.specs.lemmas.Given.{decided-by_both}
use Rattle.constriction_stored_rows.specs.Stored.{rows_paired}
use Rattle.constriction_categorical.proofs.Remade.{made_of_both, refused_both}
use Rattle.constriction_categorical.proofs.distinct.NonContiguousCategoricalDecoderModel+Symbol+Probability+Vec+tuple2+Probability+Symbol+PRECISION.from_hashable_symbols_and_nonzero_fixed_point_probabilities.Goals as goal

pub returns : goal.returns
returns g c =
    decided-by_both (AreAccepted g.Symbol.PartialEq.eq g.Probability.WholeNumber.BITS g.row.PRECISION) g.Probability.WholeNumber.BITS
    g.row.PRECISION c.args.infer_last_probability g.met.Probability.WholeNumber.number_law (λ ss ns a. a.tile.fit) _
    (made_of_both _ _ _ _ _ _ (λ entries. rows_paired g.Probability.WholeNumber.whole g.row.PRECISION (vec_items entries)) _ _
    c.in_ok-entries.ensures.made c.decoder_over.ensures tt)

pub returns-in_err-entries : goal.returns-in_err-entries
returns-in_err-entries g c =
    let error = err_from_is_err_and c.from_residual.result c.from_residual.ensures.1 in
    rw (error.1, error.2)
    (decided-by_both (AreAccepted g.Symbol.PartialEq.eq g.Probability.WholeNumber.BITS g.row.PRECISION) g.Probability.WholeNumber.BITS
    g.row.PRECISION c.args.infer_last_probability g.met.Probability.WholeNumber.number_law (λ ss ns a. a.tile.fit) _
    (refused_both _ _ _ _ _ _ _ _ c.in_err-entries.ensures.made))
