use Rattle.constriction_model.specs.lemmas.Stand.{lefts-made}
use Rattle.constriction_stored_rows.specs.Stored.{rows_paired}
use Rattle.constriction_categorical.proofs.lookup_non_contiguous.OwnLookupDecoderModel+Symbol+Probability+PRECISION+SLOT_BITS.clone.Goals as goal

pub invariant_of-result : goal.invariant_of-result
invariant_of-result g c =
    let rows = rows_paired g.Probability.WholeNumber.whole g.row.PRECISION in
    record {
      narrow = c.args.self.now.narrow;
      slots =
          rw (
            lefts-made g.Symbol.Clone.is_clone (rows c.in_ok-model.model.cdf.items)
                (rows c.args.self.now.model.cdf.items) c.in_ok-model.ensures,
            c.in_ok-lookup_table.ensures,
            c.as_slice.ensures.value,
          ) c.args.self.now.slots;
    }
