use Rattle.std.proofs.Common.{◌*◌, ◌^◌, ◌<◌, ◌≤◌, arith, rules}
use Rattle.std.proofs.Math.Pow.{pow_mono}
use Rattle.constriction_stored_rows.specs.Slots.{slot_count, slot_width}
use Rattle.constriction_stored_rows.specs.SlotTable.{words_a_slot}
use Rattle.constriction_stored_rows.proofs.SlotFilling.{words-most}
use Rattle.constriction_stored_rows.proofs.slots.words_of_table.Goals as goal

pub overflow_mul-result : goal.overflow_mul-result
overflow_mul-result g c =
    let most : 2 ^ g.row.PRECISION ≤ 2 ^ 63 = pow_mono c.requires in
    let words : words_a_slot (slot_width g.row.PRECISION g.row.SLOT_BITS) * slot_count g.row.PRECISION g.row.SLOT_BITS < 2 ^ 64 =
    omega (arith, most, words-most g.row.PRECISION g.row.SLOT_BITS) in
    let below : c.min-words_a_slot.result * c.number_of_slots.result < 2 ^ 64 =
    rw (c.min-words_a_slot.ensures, c.width_of_slots.ensures, c.number_of_slots.ensures) words in
    search rules
