use Rattle.std.proofs.Common.{map}
use Rattle.constriction_stored_rows.proofs.TileLemmas.{tiles-lefts}
use Rattle.constriction_categorical.proofs.lookup.LookupDecoderModel+Model+Vec+Model+Probability+PRECISION+SLOT_BITS.with_table.Goals as goal

pub table_of_slots-requires-clause-searchable : goal.table_of_slots-requires-clause-searchable
table_of_slots-requires-clause-searchable g c =
    (tiles-lefts g.Model.Probability.WholeNumber.BITS g.row.PRECISION (g.Model.EntropyModel.rows c.args.model)
    (g.met.Model.StoresRows.stored_law c.args.model) (map g.Model.Kind.CdfEntry.cumulative c.entries.result.now) c.entries.ensures).0

pub table_of_slots-requires-clause-below : goal.table_of_slots-requires-clause-below
table_of_slots-requires-clause-below g c =
    (tiles-lefts g.Model.Probability.WholeNumber.BITS g.row.PRECISION (g.Model.EntropyModel.rows c.args.model)
    (g.met.Model.StoresRows.stored_law c.args.model) (map g.Model.Kind.CdfEntry.cumulative c.entries.result.now) c.entries.ensures).1

pub invariant_of-result : goal.invariant_of-result
invariant_of-result g c = record {
  narrow = c.requires.narrow;
  slots = rw c.entries.ensures at c.in_ok-lookup_table.ensures;
}
