use Rattle.std.proofs.Common.{map}
use Rattle.constriction_model.proofs.Digits.{digits_some}
use Rattle.constriction_stored_rows.proofs.SlotLemmas.{slot-probed}
use Rattle.constriction_stored_rows.proofs.SlotTests.{tells-tested}
use Rattle.constriction_categorical.proofs.lookup.LookupDecoderModel.quantile_probe.Goals as goal

pub slot_probe-requires-clause-slots : goal.slot_probe-requires-clause-slots
slot_probe-requires-clause-slots g c = rw c.entries.ensures c.slots.ensures

pub returns : goal.returns
returns g c =
    let probed = slot-probed g.Model.Probability.WholeNumber.BITS g.row.PRECISION g.row.SLOT_BITS
    (g.Model.EntropyModel.rows c.args.self.now.model)
    (g.met.Model.StoresRows.stored_law c.args.self.now.model) (g.Model.Probability.WholeNumber.whole c.args.quantile) c.slot_probe.result.0
    (map g.Model.Kind.CdfEntry.cumulative c.entries.result.now)
    (map g.Model.Kind.CdfEntry.cumulative c.slot_probe.result.1.entries.now) c.entries.ensures
    c.requires c.slot_probe.ensures.part in
    let tells =
    tells-tested g.Model.Probability.WholeNumber.BITS g.row.PRECISION g.row.SLOT_BITS (g.Model.EntropyModel.rows c.args.self.now.model)
    (g.met.Model.StoresRows.stored_law c.args.self.now.model) _ _ _ probed.0 in
    record {
      exactly = tells.exactly;
      within = tells.within;
      in_order = tells.in_order;
      searchable = probed.1;
      few = digits_some c.slot_probe.result.0 _ _ tells.within;
      fresh = c.slot_probe.ensures.fresh;
      found = probed.2;
    }
