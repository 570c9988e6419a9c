-- The words up to where the present row begins are right, and there is room for the others.
use Rattle.std.specs.Prelude.{◌≡◌, ◌+◌, ◌<◌, ◌≤◌, length, map, slice_index, vec_capacity}
use Rattle.constriction_stored_rows.specs.Slots.{slot_width}
use Rattle.constriction_stored_rows.specs.SlotTable.{HasWords, IsFirstWord}
use Rattle.constriction_stored_rows.proofs.slots.slots_of.Given as goal

abbrev pub invariant-rows : goal.invariant-rows
invariant-rows g l =
    (g.Kind.Word.WholeNumber.whole l.row + 1 ≡ l.next) ×
    (g.Kind.Word.WholeNumber.whole l.row < length l.entries) ×
    HasWords (slot_width g.row.PRECISION g.row.SLOT_BITS) (map g.Kind.CdfEntry.cumulative l.entries)
    (map g.Kind.Word.WholeNumber.whole l.table.items) ×
    IsFirstWord (slot_width g.row.PRECISION g.row.SLOT_BITS)
    (slice_index (map g.Kind.CdfEntry.cumulative l.entries) (g.Kind.Word.WholeNumber.whole l.row)) (length l.table.items) ×
    (l.words ≤ vec_capacity l.table)
