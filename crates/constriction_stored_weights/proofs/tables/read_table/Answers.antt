use Rattle.std.proofs.Common.{◌≡◌, ℕ, ◌*◌, ◌%◌, ◌^◌, ◌<◌, ◌≤◌, List, [], ◌++◌, Err, take, ap, sym, arith, append-nil, refl}
use Rattle.std.proofs.lemmas.Nat.{one_shl}
use Rattle.std.proofs.lemmas.Result.{err_from_is_err_and}
use Rattle.constriction_stored_weights.specs.Bits.{bits, bits_of_bytes}
use Rattle.constriction_stored_weights.specs.Tables.{weight_bits, IsTableText}
use Rattle.constriction_stored_weights.specs.private.Places.{upcoming}
use Rattle.constriction_stored_weights.specs.declared.places.ReadPlace.{ReadPlace}
use Rattle.constriction_stored_weights.specs.declared.errors.TableReadingError.TheVariants.{TooFewBytes, NotATable}
use Rattle.constriction_stored_weights.proofs.TablesLemmas.{begins_with_weights, begins_alone, ends_in_table, text_read, same_text, zeros_after}
use Rattle.constriction_stored_weights.proofs.tables.read_table.Goals as goal

pub returns-in_err-read_entries-clause-cut : goal.returns-in_err-read_entries-clause-cut
returns-in_err-read_entries-clause-cut g c =
    let q = err_from_is_err_and c.from_residual.result c.from_residual.ensures.1 in
    rw (q.1, q.2) (λ is table.
    let same : c.in_err-read_entries.field-0.0 ≡ TooFewBytes = cc in
    c.in_err-read_entries.ensures.cut (ap Err same) (begins_alone g.row.PRECISION c.args.count c.args.bytes.now table))

pub returns-in_err-read_entries-clause-not_a_table : goal.returns-in_err-read_entries-clause-not_a_table
returns-in_err-read_entries-clause-not_a_table g c =
    let q = err_from_is_err_and c.from_residual.result c.from_residual.ensures.1 in
    rw (q.1, q.2) (λ is more table.
    let same : c.in_err-read_entries.field-0.0 ≡ NotATable = cc in
    c.in_err-read_entries.ensures.not_a_table (ap Err same) (bits_of_bytes more)
    (begins_with_weights g.row.PRECISION c.args.count (c.args.bytes.now ++ more) c.args.bytes.now more refl table))

pub returns-then-place-gt0-clause-not_a_table : goal.returns-then-place-gt0-clause-not_a_table
returns-then-place-gt0-clause-not_a_table g c = λ is more table.
    let p = g.row.PRECISION in
    let bytes = c.args.bytes.now in
    let place = c.read_entries.new.place in
    let read = c.in_ok-read_entries.ensures in
    let same = read.only (bits_of_bytes more) (begins_with_weights p c.args.count (bytes ++ more) bytes more refl table) in
    let width : place.left < 32 = omega (arith, place.within) in
    omega (
      arith,
      c.if-place-gt0.true,
      ap (λ k. place.byte % k) (one_shl place.left 32 width),
      zeros_after p c.args.count bytes more c.read_entries.new.weights.items place.next place.byte place.left place.within read.ok table
          same,
    )

text_taken : (bytes weights : List ℕ) (place : ReadPlace) → place.byte % ((1 * 2 ^ place.left) % 4294967296) ≤ 0
    → bits 0 0 ++ bits_of_bytes bytes ≡ weight_bits 0 weights ++ upcoming bytes place → IsTableText weights (take place.next bytes)
text_taken bytes weights place zeros e =
    let width : place.left < 32 = omega (arith, place.within) in
    let none : place.byte % 2 ^ place.left ≡ 0 = omega (arith, zeros, ap (λ k. place.byte % k) (one_shl place.left 32 width)) in
    text_read bytes weights place.next place.byte place.left place.within none e

pub returns-clause-ok : goal.returns-clause-ok
returns-clause-ok g c =
    let read = c.in_ok-read_entries.ensures in (
      record { few = omega (arith, read.counted, c.requires.few); total = read.total },
      read.counted,
      read.within,
      text_taken c.args.bytes.now c.read_entries.new.weights.items c.read_entries.new.place c.if-place-gt0.false read.ok,
    )

pub returns-clause-only : goal.returns-clause-only
returns-clause-only g c = λ table.
    let p = g.row.PRECISION in
    let bytes = c.args.bytes.now in
    let weights = c.read_entries.new.weights.items in
    let place = c.read_entries.new.place in
    let read = c.in_ok-read_entries.ensures in
    let same : table.weights ≡ weights =
    read.only [] (begins_with_weights p c.args.count bytes bytes [] (sym (append-nil bytes)) table) in (
      same,
      same_text weights table.weights bytes table.text table.rest place.next same read.within
          (text_taken bytes weights place c.if-place-gt0.false read.ok) table.is_text table.bytes_are,
    )

pub returns-in_err-read_entries-clause-ends : goal.returns-in_err-read_entries-clause-ends
returns-in_err-read_entries-clause-ends g c =
    let q = err_from_is_err_and c.from_residual.result c.from_residual.ensures.1 in
    rw (q.1, q.2) (λ is.
    let same : c.in_err-read_entries.field-0.0 ≡ TooFewBytes = cc in
    ends_in_table g.row.PRECISION c.args.count c.args.bytes.now (c.in_err-read_entries.ensures.ends (ap Err same)))
