use Rattle.constriction_stored_rows.proofs.TileLemmas.{tiles-increase, tiles-found}
use Rattle.constriction_categorical.proofs.lookup.LookupDecoderModel.row_index.Goals as goal

pub row_in_slot-requires-clause-increases : goal.row_in_slot-requires-clause-increases
row_in_slot-requires-clause-increases g c =
    rw c.entries.ensures
    (tiles-increase g.Model.Probability.WholeNumber.BITS g.row.PRECISION (g.Model.EntropyModel.rows c.args.self.now.model)
    (g.met.Model.StoresRows.stored_law c.args.self.now.model))

pub row_in_slot-requires-clause-slots : goal.row_in_slot-requires-clause-slots
row_in_slot-requires-clause-slots g c = rw c.entries.ensures c.slots.ensures

pub returns : goal.returns
returns g c =
    let m = c.args.self.now.model in
    tiles-found g.Model.Probability.WholeNumber.BITS g.row.PRECISION (g.Model.EntropyModel.rows m)
    (g.met.Model.StoresRows.stored_law m) (g.Model.Probability.WholeNumber.whole c.args.quantile) c.row_in_slot.result c.requires
    (rw c.entries.ensures at c.row_in_slot.ensures)
