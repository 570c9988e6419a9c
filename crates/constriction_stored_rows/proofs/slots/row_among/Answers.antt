use Rattle.std.proofs.Common.{ℕ, ◌+◌, ◌/◌, ◌^◌, ◌<◌, map, arith, rules}
use Rattle.std.proofs.lemmas.List.{length-map}
use Rattle.constriction_stored_rows.specs.Slots.{slot_width}
use Rattle.constriction_stored_rows.proofs.SlotLemmas.{slot-from, slot-to, slot-long, slot-part, part-found, part-searchable}
use Rattle.constriction_stored_rows.proofs.slots.row_among.Goals as goal

pub probe_of-rows-requires-clause-within : goal.probe_of-rows-requires-clause-within
probe_of-rows-requires-clause-within g c =
    omega (arith, c.requires.slot.to.in_bounds, length-map c.args.entries.now g.Kind.CdfEntry.cumulative)

pub row_in_probe-requires-clause-searchable : goal.row_in_probe-requires-clause-searchable
row_in_probe-requires-clause-searchable g c =
    let lefts = map g.Kind.CdfEntry.cumulative c.args.entries.now in
    let q : ℕ = g.Kind.Word.WholeNumber.whole c.args.quantile in
    let width : ℕ = slot_width g.row.PRECISION g.row.SLOT_BITS in
    let first : ℕ = c.args.first in
    let part = slot-part lefts width (q / width) first c.args.last c.requires.slot in
    rw c.probe_of-rows.ensures.cumulatives
    (part-searchable lefts c.requires.increases width (q / width) first _ part q (slot-from g.row.PRECISION g.row.SLOT_BITS q))

pub returns : goal.returns
returns g c =
    let lefts = map g.Kind.CdfEntry.cumulative c.args.entries.now in
    let q : ℕ = g.Kind.Word.WholeNumber.whole c.args.quantile in
    let width : ℕ = slot_width g.row.PRECISION g.row.SLOT_BITS in
    let first : ℕ = c.args.first in
    let part = slot-part lefts width (q / width) first c.args.last c.requires.slot in
    let found = rw c.probe_of-rows.ensures.cumulatives at c.row_in_probe.ensures in
    part-found lefts c.requires.increases width (q / width) first _ part q c.row_in_probe.result
    (slot-to g.row.PRECISION g.row.SLOT_BITS q) found

pub overflow_add-result : goal.overflow_add-result
overflow_add-result g c =
    let lefts = map g.Kind.CdfEntry.cumulative c.args.entries.now in
    let width : ℕ = slot_width g.row.PRECISION g.row.SLOT_BITS in
    let known =
    slot-long lefts width (g.Kind.Word.WholeNumber.whole c.args.quantile / width) c.args.first c.args.last c.requires.slot in
    let found = rw c.probe_of-rows.ensures.cumulatives at c.row_in_probe.ensures in
    let word : c.args.last < 2 ^ 64 = search (rules, c.ranges) in
    let below : c.args.first + c.row_in_probe.result < 2 ^ 64 = omega (arith, known, found.in_bounds, c.requires.order, word) in
    search rules
