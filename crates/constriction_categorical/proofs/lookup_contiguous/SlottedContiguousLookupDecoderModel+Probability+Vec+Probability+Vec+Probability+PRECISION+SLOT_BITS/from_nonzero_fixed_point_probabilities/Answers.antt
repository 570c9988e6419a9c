use Rattle.constriction_categorical.proofs.Remade.{decided_of_weights}
use Rattle.constriction_categorical.specs.ModelRows.{contiguous_model_rows}
use Rattle.constriction_categorical.proofs.lookup_contiguous.SlottedContiguousLookupDecoderModel+Probability+Vec+Probability+Vec+Probability+PRECISION+SLOT_BITS.from_nonzero_fixed_point_probabilities.Goals as goal

pub returns : goal.returns
returns g c =
    decided_of_weights _ _ _ _ _ _ _ contiguous_model_rows _ c.lookup_over.result c.in_ok-model.ensures c.lookup_over.ensures.ok
    c.lookup_over.ensures.refused
