use Rattle.std.proofs.Common.{ℕ, ◌/◌, map, arith}
use Rattle.std.proofs.lemmas.List.{length-map}
use Rattle.constriction_stored_rows.specs.Slots.{slot_width}
use Rattle.constriction_stored_rows.proofs.SlotLemmas.{slot-part}
use Rattle.constriction_stored_rows.proofs.slots.slot_probe.Goals as goal

pub probe_of-requires-clause-within : goal.probe_of-requires-clause-within
probe_of-requires-clause-within g c =
    omega (arith, c.rows_of_slot-first.ensures.slot.to.in_bounds, length-map c.args.entries.now g.Kind.CdfEntry.cumulative)

pub returns-clause-part : goal.returns-clause-part
returns-clause-part g c =
    let lefts = map g.Kind.CdfEntry.cumulative c.args.entries.now in
    let width : ℕ = slot_width g.row.PRECISION g.row.SLOT_BITS in
    rw c.probe_of.ensures.cumulatives
    (slot-part lefts width (g.Kind.Word.WholeNumber.whole c.args.quantile / width) c.rows_of_slot-first.result.0
    c.rows_of_slot-first.result.1 c.rows_of_slot-first.ensures.slot)
