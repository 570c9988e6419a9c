use Rattle.std.proofs.Common.{map, refl, arith}
use Rattle.std.proofs.lemmas.List.{length-map}
use Rattle.constriction_stored_rows.proofs.SlotLemmas.{row_of_three}
use Rattle.constriction_stored_rows.proofs.slots.row_of_up_to_three.Goals as goal

pub above-requires : goal.above-requires
above-requires g c =
    let long = length-map c.args.entries.now g.Kind.CdfEntry.cumulative in
    let within = c.requires.slot.to.in_bounds in
    omega arith

pub above-requires-2 : goal.above-requires-2
above-requires-2 g c =
    let long = length-map c.args.entries.now g.Kind.CdfEntry.cumulative in
    let within = c.requires.slot.to.in_bounds in
    omega arith

pub overflow_add-result : goal.overflow_add-result
overflow_add-result g c =
    let row =
    row_of_three g.row.PRECISION g.row.SLOT_BITS (g.Kind.Word.WholeNumber.whole c.args.quantile)
    (map g.Kind.CdfEntry.cumulative c.args.entries.now)
    c.requires.increases c.args.first c.args.last c.requires.slot _ c.above.result c.above-2.result c.requires.order c.requires.few refl
    c.above.ensures.at_most c.above.ensures.above c.above-2.ensures.at_most c.above-2.ensures.above in
    omega (arith, row.0)

pub overflow_sub-result : goal.overflow_sub-result
overflow_sub-result g c =
    let row =
    row_of_three g.row.PRECISION g.row.SLOT_BITS (g.Kind.Word.WholeNumber.whole c.args.quantile)
    (map g.Kind.CdfEntry.cumulative c.args.entries.now)
    c.requires.increases c.args.first c.args.last c.requires.slot _ c.above.result c.above-2.result c.requires.order c.requires.few refl
    c.above.ensures.at_most c.above.ensures.above c.above-2.ensures.at_most c.above-2.ensures.above in
    row.0

pub returns : goal.returns
returns g c =
    let row =
    row_of_three g.row.PRECISION g.row.SLOT_BITS (g.Kind.Word.WholeNumber.whole c.args.quantile)
    (map g.Kind.CdfEntry.cumulative c.args.entries.now)
    c.requires.increases c.args.first c.args.last c.requires.slot _ c.above.result c.above-2.result c.requires.order c.requires.few refl
    c.above.ensures.at_most c.above.ensures.above c.above-2.ensures.at_most c.above-2.ensures.above in
    row.1
