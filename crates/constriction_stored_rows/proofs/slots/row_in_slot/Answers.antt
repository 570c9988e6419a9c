use Rattle.std.proofs.Common.{◌≡◌, ℕ, ◌*◌, ◌/◌, map, arith, subst, sym, ◌∙◌}
use Rattle.std.proofs.Math.Nat.{div-one}
use Rattle.constriction_model.specs.Probe.{IsLastAtMost}
use Rattle.constriction_stored_rows.specs.Slots.{slot_width}
use Rattle.constriction_stored_rows.proofs.SlotLemmas.{slot_only}
use Rattle.constriction_stored_rows.proofs.slots.row_in_slot.Goals as goal

pub returns-then-width_of_slots-eq1 : goal.returns-then-width_of_slots-eq1
returns-then-width_of_slots-eq1 g c =
    let lefts = map g.Kind.CdfEntry.cumulative c.args.entries.now in
    let q : ℕ = g.Kind.Word.WholeNumber.whole c.args.quantile in
    let width : ℕ = slot_width g.row.PRECISION g.row.SLOT_BITS in
    let one : width ≡ 1 = sym c.width_of_slots.ensures ∙ c.if-width_of_slots-eq1.true in
    let same : q / width * width ≡ q = rw one (omega (arith, div-one q)) in
    subst (λ n. IsLastAtMost lefts n c.rows_of_slot-first.result.0) same c.rows_of_slot-first.ensures.slot.from

pub returns-then-first-last : goal.returns-then-first-last
returns-then-first-last g c =
    slot_only g.row.PRECISION g.row.SLOT_BITS (g.Kind.Word.WholeNumber.whole c.args.quantile)
    (map g.Kind.CdfEntry.cumulative c.args.entries.now)
    c.rows_of_slot-first.result.0 c.rows_of_slot-first.result.1 c.if-first-last.true c.rows_of_slot-first.ensures.slot

pub rows_of_slot-first-requires-clause-narrow : goal.rows_of_slot-first-requires-clause-narrow
rows_of_slot-first-requires-clause-narrow g c = c.requires.narrow

pub rows_of_slot-first-requires-clause-slots : goal.rows_of_slot-first-requires-clause-slots
rows_of_slot-first-requires-clause-slots g c = c.requires.slots

pub rows_of_slot-first-requires-clause-below : goal.rows_of_slot-first-requires-clause-below
rows_of_slot-first-requires-clause-below g c = c.requires.below

pub row_among-requires-clause-increases : goal.row_among-requires-clause-increases
row_among-requires-clause-increases g c = c.requires.increases

pub row_among-requires-clause-slot : goal.row_among-requires-clause-slot
row_among-requires-clause-slot g c = c.rows_of_slot-first.ensures.slot

pub row_among-requires-clause-order : goal.row_among-requires-clause-order
row_among-requires-clause-order g c = c.rows_of_slot-first.ensures.order

pub row_of_up_to_three-requires-clause-increases : goal.row_of_up_to_three-requires-clause-increases
row_of_up_to_three-requires-clause-increases g c = c.requires.increases

pub row_of_up_to_three-requires-clause-slot : goal.row_of_up_to_three-requires-clause-slot
row_of_up_to_three-requires-clause-slot g c = c.rows_of_slot-first.ensures.slot

pub row_of_up_to_three-requires-clause-order : goal.row_of_up_to_three-requires-clause-order
row_of_up_to_three-requires-clause-order g c = c.rows_of_slot-first.ensures.order

pub row_among-requires-2-clause-increases : goal.row_among-requires-2-clause-increases
row_among-requires-2-clause-increases g c = c.requires.increases

pub row_among-requires-2-clause-slot : goal.row_among-requires-2-clause-slot
row_among-requires-2-clause-slot g c = c.rows_of_slot-first.ensures.slot

pub row_among-requires-2-clause-order : goal.row_among-requires-2-clause-order
row_among-requires-2-clause-order g c = c.rows_of_slot-first.ensures.order

pub row_of_up_to_three-requires-clause-few : goal.row_of_up_to_three-requires-clause-few
row_of_up_to_three-requires-clause-few g c = omega arith

pub overflow_sub-last : goal.overflow_sub-last
overflow_sub-last g c = c.rows_of_slot-first.ensures.order

pub returns-then-entries-max : goal.returns-then-entries-max
returns-then-entries-max g c = c.row_among.ensures

pub returns-then-last-first-le2 : goal.returns-then-last-first-le2
returns-then-last-first-le2 g c = c.row_of_up_to_three.ensures

pub returns : goal.returns
returns g c = c.row_among-2.ensures
