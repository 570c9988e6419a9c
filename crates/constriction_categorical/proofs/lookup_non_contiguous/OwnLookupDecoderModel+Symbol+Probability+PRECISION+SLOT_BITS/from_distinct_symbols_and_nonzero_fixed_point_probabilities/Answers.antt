use Rattle.constriction_categorical.proofs.Remade.{decided_of_both}
use Rattle.constriction_categorical.specs.ModelRows.{decoder_model_rows}
use Rattle.constriction_categorical.proofs.lookup_non_contiguous.OwnLookupDecoderModel+Symbol+Probability+PRECISION+SLOT_BITS.from_distinct_symbols_and_nonzero_fixed_point_probabilities.Goals as goal

pub returns : goal.returns
returns g c =
    decided_of_both _ _ _ _ _ _ _ _ _ _ decoder_model_rows _ c.lookup_over.result c.in_ok-model.ensures c.lookup_over.ensures.ok
    c.lookup_over.ensures.refused
