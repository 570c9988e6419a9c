use Rattle.std.proofs.Common.{◌≡◌, ℕ, ◌+◌, ◌-◌, ◌^◌, ◌<◌, ◌≤◌, length, map, get_or, ap, refl, ◌∙◌, arith}
use Rattle.std.proofs.Math.Pow.{pow_mono}
use Rattle.std.proofs.lemmas.List.{length-map}
use Rattle.std.proofs.lemmas.Nat.{pow_pos}
use Rattle.constriction_stored_rows.specs.Slots.{slot_width}
use Rattle.constriction_stored_rows.specs.lemmas.Stored.{read-whole}
use Rattle.constriction_stored_rows.proofs.SlotFilling.{no-words, index-most, entry-word, next-word, word-within, row-filled, all-filled}
use Rattle.constriction_stored_rows.proofs.slots.slots_of.Goals as goal

pub first_word-end-requires-clause-below : goal.first_word-end-requires-clause-below
first_word-end-requires-clause-below g c =
    let entries = c.args.entries.now in
    let next : ℕ = c.rows.next in
    let here : next < length entries = omega (arith, c.rows-test.true) in
    omega (
      arith,
      c.requires.below next (omega (arith, here, length-map entries g.Kind.CdfEntry.cumulative)),
      read-whole g.Kind.CdfEntry.cumulative entries next c.index-entries-next.result here c.index-entries-next.is,
      c.cumulative_of.ensures,
    )

pub fill-table-requires-clause-room : goal.fill-table-requires-clause-room
fill-table-requires-clause-room g c =
    let entries = c.args.entries.now in
    let lefts = map g.Kind.CdfEntry.cumulative entries in
    let next : ℕ = c.rows.next in
    let here : next < length entries = omega (arith, c.rows-test.true) in
    let to = entry-word g.Kind.CdfEntry.cumulative (slot_width g.row.PRECISION g.row.SLOT_BITS) entries next c.index-entries-next.result
    _ c.first_word-end.result here
    c.index-entries-next.is c.cumulative_of.ensures c.first_word-end.ensures in
    let below = c.requires.below next (omega (arith, here, length-map entries g.Kind.CdfEntry.cumulative)) in
    omega (
      arith,
      word-within g.row.PRECISION g.row.SLOT_BITS _ c.first_word-end.result to below,
      c.words_of_table-words.ensures,
      c.rows.invariant.4,
    )

pub fill-table-requires-clause-more : goal.fill-table-requires-clause-more
fill-table-requires-clause-more g c =
    let width = slot_width g.row.PRECISION g.row.SLOT_BITS in
    let entries = c.args.entries.now in
    let lefts = map g.Kind.CdfEntry.cumulative entries in
    let long : length lefts ≡ length entries = length-map entries g.Kind.CdfEntry.cumulative in
    let next : ℕ = c.rows.next in
    let here : next < length entries = omega (arith, c.rows-test.true) in
    let inv = c.rows.invariant in
    let to = entry-word g.Kind.CdfEntry.cumulative width entries next c.index-entries-next.result _ c.first_word-end.result here
    c.index-entries-next.is c.cumulative_of.ensures c.first_word-end.ensures in
    omega (
      arith,
      next-word width lefts (g.Kind.Word.WholeNumber.whole c.rows.row) next (length c.rows.table.items) c.first_word-end.result
          (pow_pos (g.row.PRECISION - g.row.SLOT_BITS)) c.requires.searchable.increases inv.0 (omega (arith, here, long)) inv.3 to,
      c.rows.table.ok.0,
    )

pub from_number-row-requires : goal.from_number-row-requires
from_number-row-requires g c =
    let lefts = map g.Kind.CdfEntry.cumulative c.args.entries.now in
    let here : c.rows.next < length lefts = omega (arith, c.rows-test.true, length-map c.args.entries.now g.Kind.CdfEntry.cumulative) in
    let most : 2 ^ g.row.PRECISION ≤ 2 ^ g.Kind.Word.WholeNumber.BITS = pow_mono c.requires.fits in
    omega (arith, index-most lefts c.rows.next c.requires.searchable.increases here, c.requires.below c.rows.next here, most)

pub rows-preserved : goal.rows-preserved
rows-preserved g c =
    let whole = g.Kind.Word.WholeNumber.whole in
    let width = slot_width g.row.PRECISION g.row.SLOT_BITS in
    let entries = c.args.entries.now in
    let lefts = map g.Kind.CdfEntry.cumulative entries in
    let long : length lefts ≡ length entries = length-map entries g.Kind.CdfEntry.cumulative in
    let next : ℕ = c.rows.next in
    let here : next < length entries = omega (arith, c.rows-test.true) in
    let inv = c.rows.invariant in
    let to = entry-word g.Kind.CdfEntry.cumulative width entries next c.index-entries-next.result _ c.first_word-end.result here
    c.index-entries-next.is c.cumulative_of.ensures c.first_word-end.ensures in
    let filled = row-filled whole width (pow_pos (g.row.PRECISION - g.row.SLOT_BITS)) lefts c.rows.table.items
    c.fill-table.result.items c.rows.row c.first_word-end.result
    c.requires.searchable.increases inv.2 inv.3 (omega (arith, inv.1, long)) c.rows.table.len c.rows.table.ok.0
    c.fill-table.ensures.items next inv.0
    (omega (arith, here, long)) to in (
      ap (λ n. n + 1) c.from_number-row.ensures,
      rw c.from_number-row.ensures here,
      filled.0,
      rw (c.from_number-row.ensures, filled.1) to,
      omega (arith, inv.4, c.fill-table.ensures.capacity),
    )

pub fill-requires-clause-more : goal.fill-requires-clause-more
fill-requires-clause-more g c =
    let whole = g.Kind.Word.WholeNumber.whole in
    let lefts = map g.Kind.CdfEntry.cumulative c.args.entries.now in
    let inv = c.rows.invariant in
    let row : whole c.rows.row < length lefts = omega (arith, inv.1, length-map c.args.entries.now g.Kind.CdfEntry.cumulative) in
    omega (
      arith,
      word-within g.row.PRECISION g.row.SLOT_BITS _ (length c.rows.table.items) inv.3 (c.requires.below (whole c.rows.row) row),
      c.words_of_table-words.ensures,
      c.rows.table.ok.0,
    )

pub returns : goal.returns
returns g c =
    let whole = g.Kind.Word.WholeNumber.whole in
    let lefts = map g.Kind.CdfEntry.cumulative c.args.entries.now in
    let long : length lefts ≡ length c.args.entries.now = length-map c.args.entries.now g.Kind.CdfEntry.cumulative in
    let inv = c.rows.invariant in
    let row : whole c.rows.row < length lefts = omega (arith, inv.1, long) in
    all-filled whole (slot_width g.row.PRECISION g.row.SLOT_BITS) (pow_pos (g.row.PRECISION - g.row.SLOT_BITS)) lefts c.rows.table.items
    c.fill.result.items c.rows.row c.words_of_table-words.result
    c.requires.searchable.increases inv.2 inv.3 row c.rows.table.len c.rows.table.ok.0 c.fill.ensures.items g.row.PRECISION
    g.row.SLOT_BITS refl
    c.words_of_table-words.ensures (omega (arith, inv.0, row, long, c.rows-test.false))
    (c.requires.below (whole c.rows.row) row)

pub rows-init : goal.rows-init
rows-init g c =
    let whole = g.Kind.Word.WholeNumber.whole in
    let entries = c.args.entries.now in
    let lefts = map g.Kind.CdfEntry.cumulative entries in
    let table = c.in_ok-table.table.items in
    let none : length (map whole table) ≡ 0 = ap (λ xs. length (map whole xs)) c.in_ok-table.ensures.items in
    let first : get_or lefts (whole c.least-row.result) 0 ≡ 0 =
    ap (λ i. get_or lefts i 0) c.least-row.ensures ∙ omega (arith, c.requires.searchable.begins) in
    let words = no-words (slot_width g.row.PRECISION g.row.SLOT_BITS) lefts (map whole table) _ none first in (
      omega (arith, c.least-row.ensures),
      omega (arith, c.least-row.ensures, c.requires.searchable.some, length-map entries g.Kind.CdfEntry.cumulative),
      words.0,
      rw (length-map table whole) at words.1,
      omega (arith, c.in_ok-table.ensures.capacity, c.saturating_add.ensures, c.words_of_table-words.type_inv),
    )

pub fill-requires-clause-room : goal.fill-requires-clause-room
fill-requires-clause-room g c = c.rows.invariant.4
