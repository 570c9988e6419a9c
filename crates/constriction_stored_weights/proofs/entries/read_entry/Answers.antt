use Rattle.std.proofs.Common.{◌≡◌, ◌<◌, ◌++◌, ap, sym, ◌∙◌, arith}
use Rattle.constriction_stored_weights.specs.Tables.{number_bits}
use Rattle.constriction_stored_weights.specs.private.Places.{upcoming}
use Rattle.constriction_stored_weights.proofs.NumbersLemmas.{same_number, no_number_yet}
use Rattle.constriction_stored_weights.proofs.EntriesLemmas.{begins_with_number, entry_with_no_run, entry_with_run, run_after, extended, ends_in_first, ends_in_run, ends_in_weight}
use Rattle.constriction_stored_weights.proofs.entries.read_entry.Goals as goal

pub returns-in_default-clause-cut : goal.returns-in_default-clause-cut
returns-in_default-clause-cut c = λ is entry.
    let first = begins_with_number (upcoming c.args.bytes.now c.args.place.now) entry in
    no_number_yet (upcoming c.args.bytes.now c.args.place.now) (c.read_number.ensures.none c.in_default.is) first.0 first.2.0 first.1
    first.2.1

pub returns-then-first-gt0-clause-ok : goal.returns-then-first-gt0-clause-ok
returns-then-first-gt0-clause-ok c =
    let read = c.in-Some.ensures.some in
    let up = upcoming c.args.bytes.now c.read_number.new.place in
    (read.1 ∙ sym (entry_with_no_run 0 c.in-Some.first up (omega arith)), omega arith, c.if-first-gt0.true, read.0)

pub returns-in_default-read_number-clause-cut : goal.returns-in_default-read_number-clause-cut
returns-in_default-read_number-clause-cut c = λ is entry.
    let after = run_after _ _ c.in-Some.first c.in-Some.ensures.some.1 c.if-first-gt0.false entry in
    no_number_yet (upcoming c.args.bytes.now c.read_number.new.place) (c.read_number-2.ensures.none c.in_default-read_number.is) entry.run
    (number_bits entry.weight ++ entry.rest) entry.run_fits after.0

pub returns-then-zeros-eq0-clause-not_a_table : goal.returns-then-zeros-eq0-clause-not_a_table
returns-then-zeros-eq0-clause-not_a_table c = λ is more entry.
    let bytes = c.args.bytes.now in
    let up = upcoming bytes c.args.place.now in
    let up2 = upcoming bytes c.read_number.new.place in
    let up3 = upcoming bytes c.read_number-2.new.place in
    let first = c.in-Some.ensures.some in
    let second = c.in-Some-read_number.ensures.some in
    let after = run_after (up ++ more) (up2 ++ more) c.in-Some.first (extended up (number_bits c.in-Some.first) up2 more first.1)
    c.if-first-gt0.false entry in
    let same = same_number c.in-Some-read_number.zeros entry.run (up3 ++ more) (number_bits entry.weight ++ entry.rest) second.0
    entry.run_fits (sym (extended up2 (number_bits c.in-Some-read_number.zeros) up3 more second.1) ∙ after.0) in
    omega (arith, same.0, after.1, c.if-zeros-eq0.true)

pub returns-in_default-read_number-2-clause-cut : goal.returns-in_default-read_number-2-clause-cut
returns-in_default-read_number-2-clause-cut c = λ is entry.
    let bytes = c.args.bytes.now in
    let first = c.in-Some.ensures.some in
    let second = c.in-Some-read_number.ensures.some in
    let after = run_after (upcoming bytes c.args.place.now) (upcoming bytes c.read_number.new.place) c.in-Some.first first.1
    c.if-first-gt0.false entry in
    let same = same_number c.in-Some-read_number.zeros entry.run (upcoming bytes c.read_number-2.new.place)
    (number_bits entry.weight ++ entry.rest) second.0 entry.run_fits (sym second.1 ∙ after.0) in
    no_number_yet (upcoming bytes c.read_number-2.new.place) (c.read_number-3.ensures.none c.in_default-read_number-2.is) entry.weight
    entry.rest entry.weight_fits same.1

pub returns-then-weight-eq0-clause-not_a_table : goal.returns-then-weight-eq0-clause-not_a_table
returns-then-weight-eq0-clause-not_a_table c = λ is more entry.
    let bytes = c.args.bytes.now in
    let up = upcoming bytes c.args.place.now in
    let up2 = upcoming bytes c.read_number.new.place in
    let up3 = upcoming bytes c.read_number-2.new.place in
    let up4 = upcoming bytes c.read_number-3.new.place in
    let first = c.in-Some.ensures.some in
    let second = c.in-Some-read_number.ensures.some in
    let third = c.in-Some-read_number-2.ensures.some in
    let after = run_after (up ++ more) (up2 ++ more) c.in-Some.first (extended up (number_bits c.in-Some.first) up2 more first.1)
    c.if-first-gt0.false entry in
    let same = same_number c.in-Some-read_number.zeros entry.run (up3 ++ more) (number_bits entry.weight ++ entry.rest) second.0
    entry.run_fits (sym (extended up2 (number_bits c.in-Some-read_number.zeros) up3 more second.1) ∙ after.0) in
    let last = same_number c.in-Some-read_number-2.weight entry.weight (up4 ++ more) entry.rest third.0 entry.weight_fits
    (sym (extended up3 (number_bits c.in-Some-read_number-2.weight) up4 more third.1) ∙ same.1) in
    let some = entry.some in
    omega (arith, last.0, c.if-weight-eq0.true)

pub returns-clause-ok : goal.returns-clause-ok
returns-clause-ok c =
    let run = c.in-Some-read_number.zeros in
    let weight = c.in-Some-read_number-2.weight in
    let up = upcoming c.args.bytes.now c.read_number-3.new.place in
    let none : c.in-Some.first ≡ 0 = omega (arith, c.if-first-gt0.false) in
    let some : 0 < run = omega (arith, c.if-zeros-eq0.false) in (
      c.in-Some.ensures.some.1 ∙ ap (λ n. number_bits n ++ upcoming c.args.bytes.now c.read_number.new.place) none
          ∙ ap (λ xs. number_bits 0 ++ xs) c.in-Some-read_number.ensures.some.1
          ∙ ap (λ xs. number_bits 0 ++ (number_bits run ++ xs)) c.in-Some-read_number-2.ensures.some.1
          ∙ sym (entry_with_run run weight up some),
      c.in-Some-read_number.ensures.some.0,
      omega (arith, c.if-weight-eq0.false),
      c.in-Some-read_number-2.ensures.some.0,
    )

pub returns-in_default-clause-ends : goal.returns-in_default-clause-ends
returns-in_default-clause-ends c = λ is.
    ends_in_first (upcoming c.args.bytes.now c.args.place.now) (c.read_number.ensures.none c.in_default.is)

pub returns-in_default-read_number-clause-ends : goal.returns-in_default-read_number-clause-ends
returns-in_default-read_number-clause-ends c = λ is.
    let bytes = c.args.bytes.now in
    ends_in_run (upcoming bytes c.args.place.now) (upcoming bytes c.read_number.new.place) c.in-Some.first c.in-Some.ensures.some.1
    c.if-first-gt0.false (c.read_number-2.ensures.none c.in_default-read_number.is)

pub returns-in_default-read_number-2-clause-ends : goal.returns-in_default-read_number-2-clause-ends
returns-in_default-read_number-2-clause-ends c = λ is.
    let bytes = c.args.bytes.now in
    ends_in_weight (upcoming bytes c.args.place.now) (upcoming bytes c.read_number.new.place) (upcoming bytes c.read_number-2.new.place)
    c.in-Some.first c.in-Some-read_number.zeros c.in-Some.ensures.some.1 c.if-first-gt0.false c.in-Some-read_number.ensures.some.1
    (omega (arith, c.if-zeros-eq0.false)) (c.read_number-3.ensures.none c.in_default-read_number-2.is)
