use Rattle.std.proofs.Common.{◌++◌, ap, sym, ◌∙◌, append-nil}
use Rattle.constriction_stored_weights.specs.Tables.{number_bits, run_bits}
use Rattle.constriction_stored_weights.specs.private.Places.{held}
use Rattle.constriction_stored_weights.proofs.BitsLemmas.{added_twice}
use Rattle.constriction_stored_weights.proofs.EntriesLemmas.{a_run, no_run}
use Rattle.constriction_stored_weights.proofs.writing.push_run.Goals as goal

pub returns-in_ok-push_number-2-clause-ok : goal.returns-in_ok-push_number-2-clause-ok
returns-in_ok-push_number-2-clause-ok c =
    added_twice (held c.args.bytes.now.items c.args.place.now) _ _ (number_bits 0) (number_bits c.args.zeros) (run_bits c.args.zeros)
    c.in_ok-push_number.ensures.ok c.in_ok-push_number-2.ensures.ok (a_run c.args.zeros c.if-zeros-gt0.true)

pub returns-else-zeros-gt0-clause-ok : goal.returns-else-zeros-gt0-clause-ok
returns-else-zeros-gt0-clause-ok c =
    let old = held c.args.bytes.now.items c.args.place.now in
    sym (ap (λ xs. old ++ xs) (no_run c.args.zeros c.if-zeros-gt0.false) ∙ append-nil old)
