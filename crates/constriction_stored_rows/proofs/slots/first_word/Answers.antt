use Rattle.std.proofs.Common.{◌≡◌, ℕ, sym, ◌∙◌, ◌+◌, ◌-◌, ◌/◌, ◌^◌, ◌<◌, ◌≤◌, arith, rules}
use Rattle.std.proofs.Math.Nat.{div-le_self}
use Rattle.std.proofs.Math.Pow.{pow_mono}
use Rattle.std.proofs.lemmas.Nat.{pow_pos}
use Rattle.constriction_stored_rows.specs.Slots.{slot_width}
use Rattle.constriction_stored_rows.specs.SlotTable.{words_a_slot}
use Rattle.constriction_stored_rows.proofs.SlotFilling.{first-word, first-alone, up-most}
use Rattle.constriction_stored_rows.proofs.slots.first_word.Goals as goal

pub overflow_add-result-2 : goal.overflow_add-result-2
overflow_add-result-2 g c =
    let w : ℕ = c.width_of_slots-width.result in
    let left : ℕ = c.to_number-left.result in
    let some : 0 < w = rw c.width_of_slots-width.ensures (pow_pos (g.row.PRECISION - g.row.SLOT_BITS)) in
    let most : 2 ^ g.row.PRECISION ≤ 2 ^ 63 = pow_mono c.requires.narrow in
    let below : left / w + (left + (w - 1)) / w < 2 ^ 64 =
    omega (arith, up-most w left some, div-le_self left w, most, c.requires.below, c.to_number-left.ensures) in
    search rules

pub returns-then-width-eq1 : goal.returns-then-width-eq1
returns-then-width-eq1 g c =
    let one : slot_width g.row.PRECISION g.row.SLOT_BITS ≡ 1 = sym c.width_of_slots-width.ensures ∙ c.if-width-eq1.true in
    rw (one, c.to_number-left.ensures) (first-alone (g.Word.WholeNumber.whole c.args.left))

pub returns : goal.returns
returns g c =
    let width : ℕ = slot_width g.row.PRECISION g.row.SLOT_BITS in
    let some : 0 < width = pow_pos (g.row.PRECISION - g.row.SLOT_BITS) in
    let two : words_a_slot width ≡ 2 = omega (arith, c.width_of_slots-width.ensures, c.if-width-eq1.false) in
    rw (c.width_of_slots-width.ensures, c.to_number-left.ensures) (first-word width (g.Word.WholeNumber.whole c.args.left) some two)
