use Rattle.constriction_model.proofs.Digits.{digits_some}
use Rattle.constriction_stored_rows.proofs.PairedLemmas.{paired-probed}
use Rattle.constriction_categorical.proofs.non_contiguous.NonContiguousCategoricalDecoderModel.quantile_probe.Goals as goal

pub returns : goal.returns
returns g c =
    let whole = g.Probability.WholeNumber.whole in
    let entries = g.Cdf.SafeBuf.words_of c.args.self.now.cdf in
    let probed = paired-probed whole g.Probability.WholeNumber.BITS g.row.PRECISION entries c.args.self.now.stored c.cdf_entries.result.now
    c.cdf_entries.ensures in
    record {
      exactly = rw c.new.ensures.cumulatives probed.0.exactly;
      within = rw c.new.ensures.cumulatives probed.0.within;
      in_order = rw c.new.ensures.cumulatives probed.0.in_order;
      searchable = rw c.new.ensures.cumulatives (probed.1 (whole c.args.quantile));
      few = rw c.new.ensures.cumulatives (digits_some 0 _ _ probed.0.within);
      fresh = c.new.ensures.fresh;
      found = rw c.new.ensures.cumulatives (λ i f. probed.2 (whole c.args.quantile) i c.requires f);
    }
