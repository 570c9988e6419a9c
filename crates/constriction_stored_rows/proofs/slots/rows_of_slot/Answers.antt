use Rattle.std.proofs.Common.{ℕ, ◌-◌, ◌/◌, ◌<◌, length, map, arith, rules}
use Rattle.std.proofs.lemmas.Nat.{pow_pos}
use Rattle.constriction_stored_rows.specs.Slots.{slot_width}
use Rattle.constriction_stored_rows.proofs.SlotLemmas.{alone-within, alone-row, slot-alone, pair-within, pair-first, pair-last, slot-pair, slot-order}
use Rattle.constriction_stored_rows.proofs.slots.rows_of_slot.Goals as goal

pub bounds-table-slot : goal.bounds-table-slot
bounds-table-slot g c =
    alone-within g.Kind.Word.WholeNumber.whole g.Kind.CdfEntry.cumulative c.args.entries.now c.args.table.now _ _ _ c.requires.slots
    c.slot_of_quantile-slot.ensures.below
    (omega (arith, c.width_of_slots.ensures, c.if-width_of_slots-eq1.true))

pub to_number-row-requires : goal.to_number-row-requires
to_number-row-requires g c =
    let bound : g.Kind.Word.WholeNumber.whole c.index-table-slot.result < length c.args.entries.now =
    alone-row g.Kind.Word.WholeNumber.whole g.Kind.CdfEntry.cumulative c.args.entries.now c.args.table.now _ _ _ c.requires.slots
    c.slot_of_quantile-slot.ensures.below
    (omega (arith, c.width_of_slots.ensures, c.if-width_of_slots-eq1.true))
    c.index-table-slot.result c.index-table-slot.is in
    search rules

pub returns-then-width_of_slots-eq1-clause-slot : goal.returns-then-width_of_slots-eq1-clause-slot
returns-then-width_of_slots-eq1-clause-slot g c =
    let slot = slot-alone g.Kind.Word.WholeNumber.whole g.Kind.CdfEntry.cumulative c.args.entries.now c.args.table.now _ _ _
    c.requires.slots c.slot_of_quantile-slot.ensures.below
    (omega (arith, c.width_of_slots.ensures, c.if-width_of_slots-eq1.true))
    c.index-table-slot.result c.index-table-slot.is in
    rw (← c.slot_of_quantile-slot.ensures.is, c.to_number-row.ensures) slot

pub bounds-table-slot-2 : goal.bounds-table-slot-2
bounds-table-slot-2 g c =
    let within = pair-within g.Kind.Word.WholeNumber.whole g.Kind.CdfEntry.cumulative c.args.entries.now c.args.table.now _ _ _
    c.requires.slots c.slot_of_quantile-slot.ensures.below
    (omega (arith, pow_pos (g.row.PRECISION - g.row.SLOT_BITS), c.width_of_slots.ensures, c.if-width_of_slots-eq1.false)) in
    omega (arith, within)

pub to_number-requires : goal.to_number-requires
to_number-requires g c =
    let bound : g.Kind.Word.WholeNumber.whole c.index-table-slot-2.result < length c.args.entries.now =
    pair-first g.Kind.Word.WholeNumber.whole g.Kind.CdfEntry.cumulative c.args.entries.now c.args.table.now _ _ _ c.requires.slots
    c.slot_of_quantile-slot.ensures.below
    (omega (arith, pow_pos (g.row.PRECISION - g.row.SLOT_BITS), c.width_of_slots.ensures, c.if-width_of_slots-eq1.false))
    c.index-table-slot-2.result c.index-table-slot-2.is in
    search rules

pub offset_bounds-table-slot-3 : goal.offset_bounds-table-slot-3
offset_bounds-table-slot-3 g c =
    let within = pair-within g.Kind.Word.WholeNumber.whole g.Kind.CdfEntry.cumulative c.args.entries.now c.args.table.now _ _ _
    c.requires.slots c.slot_of_quantile-slot.ensures.below
    (omega (arith, pow_pos (g.row.PRECISION - g.row.SLOT_BITS), c.width_of_slots.ensures, c.if-width_of_slots-eq1.false)) in
    omega (arith, within)

pub bounds-table-slot-3 : goal.bounds-table-slot-3
bounds-table-slot-3 g c =
    let within = pair-within g.Kind.Word.WholeNumber.whole g.Kind.CdfEntry.cumulative c.args.entries.now c.args.table.now _ _ _
    c.requires.slots c.slot_of_quantile-slot.ensures.below
    (omega (arith, pow_pos (g.row.PRECISION - g.row.SLOT_BITS), c.width_of_slots.ensures, c.if-width_of_slots-eq1.false)) in
    omega (arith, within)

pub to_number-requires-2 : goal.to_number-requires-2
to_number-requires-2 g c =
    let bound : g.Kind.Word.WholeNumber.whole c.index-table-slot-3.result < length c.args.entries.now =
    pair-last g.Kind.Word.WholeNumber.whole g.Kind.CdfEntry.cumulative c.args.entries.now c.args.table.now _ _ _ c.requires.slots
    c.slot_of_quantile-slot.ensures.below
    (omega (arith, pow_pos (g.row.PRECISION - g.row.SLOT_BITS), c.width_of_slots.ensures, c.if-width_of_slots-eq1.false))
    c.index-table-slot-3.result c.index-table-slot-3.is in
    search rules

pub returns-clause-slot : goal.returns-clause-slot
returns-clause-slot g c =
    let slot = slot-pair g.Kind.Word.WholeNumber.whole g.Kind.CdfEntry.cumulative c.args.entries.now c.args.table.now _ _ _ c.requires.slots
    c.slot_of_quantile-slot.ensures.below
    (omega (arith, pow_pos (g.row.PRECISION - g.row.SLOT_BITS), c.width_of_slots.ensures, c.if-width_of_slots-eq1.false))
    c.index-table-slot-2.result c.index-table-slot-3.result c.index-table-slot-2.is c.index-table-slot-3.is in
    rw (← c.slot_of_quantile-slot.ensures.is, c.to_number.ensures, c.to_number-2.ensures) slot

pub returns-clause-order : goal.returns-clause-order
returns-clause-order g c =
    let width : ℕ = slot_width g.row.PRECISION g.row.SLOT_BITS in
    slot-order (map g.Kind.CdfEntry.cumulative c.args.entries.now) width (g.Kind.Word.WholeNumber.whole c.args.quantile / width) _ _
    (returns-clause-slot g c)

pub slot_of_quantile-slot-requires-clause-narrow : goal.slot_of_quantile-slot-requires-clause-narrow
slot_of_quantile-slot-requires-clause-narrow g c = c.requires.narrow

pub slot_of_quantile-slot-requires-clause-below : goal.slot_of_quantile-slot-requires-clause-below
slot_of_quantile-slot-requires-clause-below g c = c.requires.below

pub offset_bounds-table-slot : goal.offset_bounds-table-slot
offset_bounds-table-slot g c =
    let within =
    alone-within g.Kind.Word.WholeNumber.whole g.Kind.CdfEntry.cumulative c.args.entries.now c.args.table.now _ _ _ c.requires.slots
    c.slot_of_quantile-slot.ensures.below
    (omega (arith, c.width_of_slots.ensures, c.if-width_of_slots-eq1.true)) in
    omega (arith, within)

pub returns-then-width_of_slots-eq1-clause-order : goal.returns-then-width_of_slots-eq1-clause-order
returns-then-width_of_slots-eq1-clause-order g c = omega arith

pub overflow_mul-slot : goal.overflow_mul-slot
overflow_mul-slot g c =
    let within = pair-within g.Kind.Word.WholeNumber.whole g.Kind.CdfEntry.cumulative c.args.entries.now c.args.table.now _ _ _
    c.requires.slots c.slot_of_quantile-slot.ensures.below
    (omega (arith, pow_pos (g.row.PRECISION - g.row.SLOT_BITS), c.width_of_slots.ensures, c.if-width_of_slots-eq1.false)) in
    omega (arith, within)

pub offset_bounds-table-slot-2 : goal.offset_bounds-table-slot-2
offset_bounds-table-slot-2 g c =
    let within = pair-within g.Kind.Word.WholeNumber.whole g.Kind.CdfEntry.cumulative c.args.entries.now c.args.table.now _ _ _
    c.requires.slots c.slot_of_quantile-slot.ensures.below
    (omega (arith, pow_pos (g.row.PRECISION - g.row.SLOT_BITS), c.width_of_slots.ensures, c.if-width_of_slots-eq1.false)) in
    omega (arith, within)

pub overflow_mul-slot-2 : goal.overflow_mul-slot-2
overflow_mul-slot-2 g c =
    let within = pair-within g.Kind.Word.WholeNumber.whole g.Kind.CdfEntry.cumulative c.args.entries.now c.args.table.now _ _ _
    c.requires.slots c.slot_of_quantile-slot.ensures.below
    (omega (arith, pow_pos (g.row.PRECISION - g.row.SLOT_BITS), c.width_of_slots.ensures, c.if-width_of_slots-eq1.false)) in
    omega (arith, within)

pub overflow_add-slot : goal.overflow_add-slot
overflow_add-slot g c =
    let within = pair-within g.Kind.Word.WholeNumber.whole g.Kind.CdfEntry.cumulative c.args.entries.now c.args.table.now _ _ _
    c.requires.slots c.slot_of_quantile-slot.ensures.below
    (omega (arith, pow_pos (g.row.PRECISION - g.row.SLOT_BITS), c.width_of_slots.ensures, c.if-width_of_slots-eq1.false)) in
    omega (arith, within)
