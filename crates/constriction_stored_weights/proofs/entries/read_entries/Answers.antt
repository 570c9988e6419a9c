use Rattle.std.proofs.Common.{◌≡◌, ◌+◌, ◌-◌, ◌<◌, [], ◌++◌, Err, length, ap, subst, arith, append-nil}
use Rattle.std.proofs.lemmas.Nat.{one_shl}
use Rattle.std.proofs.lemmas.Result.{err_from_is_err_and}
use Rattle.constriction_stored_weights.specs.Tables.{entry_bits}
use Rattle.constriction_stored_weights.specs.private.Entries.{BeginsWithEntry}
use Rattle.constriction_stored_weights.specs.private.Places.{upcoming}
use Rattle.constriction_stored_weights.specs.declared.errors.TableReadingError.TheVariants.{TooFewBytes, NotATable}
use Rattle.constriction_stored_weights.proofs.EntriesLemmas.{reached_none, reached_more, goes_on, same_entry, extended, whole_table, ends_in_weights, alone}
use Rattle.constriction_stored_weights.proofs.entries.read_entries.Goals as goal
use Rattle.constriction_stored_weights.proofs.entries.read_entries.Goals.{then-zeros-count-via-then-zeros-count, then-zeros-count-via-else-zeros-count+then-weight-left}

pub loop-left-init : goal.loop-left-init
loop-left-init g c =
    let p = g.row.PRECISION in
    let all = upcoming c.args.bytes.now c.args.place.now in
    let small : p < 32 = omega (arith, c.requires.precision) in
    record {
      within = c.requires.within;
      room = c.requires.room;
      reached = rw c.requires.empty (reached_none p c.args.count all _ (one_shl p 32 small));
    }

pub returns-in_err-zeros-clause-cut : goal.returns-in_err-zeros-clause-cut
returns-in_err-zeros-clause-cut g c =
    let q = err_from_is_err_and c.from_residual.result c.from_residual.ensures.1 in
    let all = upcoming c.args.bytes.now c.args.place.now in
    let coming = upcoming c.args.bytes.now c.loop-left.place in
    rw (q.1, q.2) (λ is table.
    let same : c.in_err-zeros.field-0.0 ≡ TooFewBytes = cc in
    let on = goes_on g.row.PRECISION c.args.count all c.loop-left.weights.items coming c.loop-left.left c.requires.precision
    c.loop-left.invariant.reached c.loop-left-test.true [] (alone g.row.PRECISION c.args.count all table) in
    c.in_err-zeros.ensures.cut (ap Err same) (subst BeginsWithEntry (append-nil coming) on.entry))

pub returns-in_err-zeros-clause-not_a_table : goal.returns-in_err-zeros-clause-not_a_table
returns-in_err-zeros-clause-not_a_table g c =
    let q = err_from_is_err_and c.from_residual.result c.from_residual.ensures.1 in
    let all = upcoming c.args.bytes.now c.args.place.now in
    let coming = upcoming c.args.bytes.now c.loop-left.place in
    rw (q.1, q.2) (λ is more table.
    let same : c.in_err-zeros.field-0.0 ≡ NotATable = cc in
    let on = goes_on g.row.PRECISION c.args.count all c.loop-left.weights.items coming c.loop-left.left c.requires.precision
    c.loop-left.invariant.reached c.loop-left-test.true more table in
    c.in_err-zeros.ensures.not_a_table (ap Err same) more on.entry)

pub returns-then-zeros-count-clause-not_a_table : goal.returns-then-zeros-count-clause-not_a_table
returns-then-zeros-count-clause-not_a_table g c = λ is more table.
    let bytes = c.args.bytes.now in
    let all = upcoming bytes c.args.place.now in
    let coming = upcoming bytes c.loop-left.place in
    let next = upcoming bytes c.read_entry.new.place in
    let run = c.in_ok-zeros.zeros in
    let weight = c.in_ok-zeros.weight in
    let read = c.in_ok-zeros.ensures.ok in
    let on = goes_on g.row.PRECISION c.args.count all c.loop-left.weights.items coming c.loop-left.left c.requires.precision
    c.loop-left.invariant.reached c.loop-left-test.true more table in
    let same = same_entry (coming ++ more) (next ++ more) run weight read.1 read.2 read.3
    (extended coming (entry_bits run weight) next more read.0) on.entry in
    elim c.then-zeros-count.branch [
      | then-zeros-count-via-then-zeros-count w ↦ omega (arith, same.0, on.room, w.if-zeros-count.true, c.len.ensures)
      | then-zeros-count-via-else-zeros-count+then-weight-left w ↦ omega (arith, same.1, on.within, w.if-weight-left.true)
    ]

pub loop-left-preserved : goal.loop-left-preserved
loop-left-preserved g c =
    let bytes = c.args.bytes.now in
    let all = upcoming bytes c.args.place.now in
    let coming = upcoming bytes c.loop-left.place in
    let next = upcoming bytes c.read_entry.new.place in
    let done = c.loop-left.weights.items in
    let run = c.in_ok-zeros.zeros in
    let weight = c.in_ok-zeros.weight in
    let read = c.in_ok-zeros.ensures.ok in
    let here = c.loop-left.invariant in
    let room : length done + run < c.args.count = omega (arith, c.if-zeros-count.false, c.len.ensures, here.reached.fits) in
    record {
      within = c.in_ok-zeros.ensures.within;
      room = omega (arith, here.room, c.push_zeros.ensures.capacity, c.push_reserved.ensures.capacity);
      reached =
          rw (c.push_reserved.ensures.items, c.push_zeros.ensures.items)
          (reached_more g.row.PRECISION c.args.count all done coming c.loop-left.left
          c.requires.precision here.reached c.loop-left-test.true run weight next read.1 read.2 read.3 read.0 room c.if-weight-left.false);
    }

pub returns-clause-ok : goal.returns-clause-ok
returns-clause-ok g c =
    let bytes = c.args.bytes.now in
    let all = upcoming bytes c.args.place.now in
    let coming = upcoming bytes c.loop-left.place in
    let done = c.loop-left.weights.items in
    let whole = whole_table g.row.PRECISION c.args.count all done coming c.loop-left.left c.loop-left.invariant.reached
    c.loop-left-test.false in
    let others : c.args.count - c.len-2.result ≡ c.args.count - length done = omega (arith, c.len-2.ensures) in
    rw (c.push_zeros-2.ensures.items, others) whole.parts

pub returns-clause-only : goal.returns-clause-only
returns-clause-only g c =
    let bytes = c.args.bytes.now in
    let all = upcoming bytes c.args.place.now in
    let coming = upcoming bytes c.loop-left.place in
    let done = c.loop-left.weights.items in
    let whole = whole_table g.row.PRECISION c.args.count all done coming c.loop-left.left c.loop-left.invariant.reached
    c.loop-left-test.false in
    let others : c.args.count - c.len-2.result ≡ c.args.count - length done = omega (arith, c.len-2.ensures) in
    rw (c.push_zeros-2.ensures.items, others) whole.only

pub returns-in_err-zeros-clause-ends : goal.returns-in_err-zeros-clause-ends
returns-in_err-zeros-clause-ends g c =
    let q = err_from_is_err_and c.from_residual.result c.from_residual.ensures.1 in
    let all = upcoming c.args.bytes.now c.args.place.now in
    let coming = upcoming c.args.bytes.now c.loop-left.place in
    rw (q.1, q.2) (λ is.
    let same : c.in_err-zeros.field-0.0 ≡ TooFewBytes = cc in
    ends_in_weights g.row.PRECISION c.args.count all c.loop-left.weights.items coming c.loop-left.left c.loop-left.invariant.reached
    c.loop-left-test.true (λ whole. omega (arith, whole, c.len.ensures, c.if-len-count.false)) (c.in_err-zeros.ensures.ends (ap Err same)))

pub returns-then-len-count-clause-not_a_table : goal.returns-then-len-count-clause-not_a_table
returns-then-len-count-clause-not_a_table g c = λ is more table.
    let all = upcoming c.args.bytes.now c.args.place.now in
    let coming = upcoming c.args.bytes.now c.loop-left.place in
    let on = goes_on g.row.PRECISION c.args.count all c.loop-left.weights.items coming c.loop-left.left c.requires.precision
    c.loop-left.invariant.reached c.loop-left-test.true more table in
    omega (arith, on.room, c.len.ensures, c.if-len-count.true)
