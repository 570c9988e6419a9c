use Rattle.std.proofs.Common.{map, ap, refl, arith, rules, zero-add, inl, inr}
use Rattle.std.specs.Prelude.{sum}
use Rattle.std.specs.Vec.{vec_capacity}
use Rattle.std.proofs.lemmas.Result.{IfOk-from_err}
use Rattle.constriction_stored_rows.proofs.FillLemmas.{accepted≢refused, table≢memory, lefts_from-push}
use Rattle.constriction_stored_rows.proofs.RefillLemmas.{slice-good, slice-bad, one-more, failed, succeeded}
use Rattle.constriction_stored_rows.proofs.filling.refill_cdf.Goals as goal

pub returns-in_err-weights_taken-clause-invalid : goal.returns-in_err-weights_taken-clause-invalid
returns-in_err-weights_taken-clause-invalid g c = λ e. elim (c.in_err-weights_taken.ensures.invalid (search rules)) [
  | inl bad ↦ slice-bad c.copied-judged.result c.args.weights.now (search rules) _ bad.0
  | inr never ↦ absurd never.1
]

pub before_last-before-requires : goal.before_last-before-requires
before_last-before-requires g c =
    (slice-good c.copied-judged.result c.args.weights.now (search rules) _ c.in_ok-weights_taken.ensures.ok).0

pub returns-clause-accepted : goal.returns-clause-accepted
returns-clause-accepted g c =
    (slice-good c.copied-judged.result c.args.weights.now (search rules) _ c.in_ok-weights_taken.ensures.ok).0

pub returns-clause-ok : goal.returns-clause-ok
returns-clause-ok g c =
    let before = map g.Word.WholeNumber.whole c.before_last-before.result.now in
    let last = c.before_last-before.ensures.before in
    rw (last.1, lefts_from-push 0 before last.0, zero-add (sum before)) c.rewritten.ensures

pub weights_taken-requires-clause-precision : goal.weights_taken-requires-clause-precision
weights_taken-requires-clause-precision g c = c.requires

pub weights_taken-requires-clause-none : goal.weights_taken-requires-clause-none
weights_taken-requires-clause-none g c = tt

pub weights_taken-requires-clause-goes : goal.weights_taken-requires-clause-goes
weights_taken-requires-clause-goes g c = tt

pub weights_taken-requires-clause-ends : goal.weights_taken-requires-clause-ends
weights_taken-requires-clause-ends g c = tt

pub returns-in_err-weights_taken-clause-accepted : goal.returns-in_err-weights_taken-clause-accepted
returns-in_err-weights_taken-clause-accepted g c = IfOk-from_err c.from_residual.result _ c.from_residual.ensures.0

pub returns-in_err-weights_taken-clause-ok : goal.returns-in_err-weights_taken-clause-ok
returns-in_err-weights_taken-clause-ok g c = IfOk-from_err c.from_residual.result _ c.from_residual.ensures.0

pub returns-in_err-weights_taken-clause-memory : goal.returns-in_err-weights_taken-clause-memory
returns-in_err-weights_taken-clause-memory g c = λ e. absurd (c.in_err-weights_taken.ensures.memory (search rules))

pub returns-in_default-clause-accepted : goal.returns-in_default-clause-accepted
returns-in_default-clause-accepted g c = tt

pub returns-in_default-clause-ok : goal.returns-in_default-clause-ok
returns-in_default-clause-ok g c = tt

pub returns-in_default-clause-invalid : goal.returns-in_default-clause-invalid
returns-in_default-clause-invalid g c = λ e. absurd (table≢memory _ e refl)

pub returns-then-is_err-clause-accepted : goal.returns-then-is_err-clause-accepted
returns-then-is_err-clause-accepted g c = tt

pub returns-then-is_err-clause-ok : goal.returns-then-is_err-clause-ok
returns-then-is_err-clause-ok g c = tt

pub returns-then-is_err-clause-invalid : goal.returns-then-is_err-clause-invalid
returns-then-is_err-clause-invalid g c = λ e. absurd (table≢memory _ e refl)

pub returns-in_default-clause-err : goal.returns-in_default-clause-err
returns-in_default-clause-err g c = refl

pub rewritten-requires-clause-precision : goal.rewritten-requires-clause-precision
rewritten-requires-clause-precision g c = c.requires

pub rewritten-requires-clause-some_left : goal.rewritten-requires-clause-some_left
rewritten-requires-clause-some_left g c = c.before_last-before.ensures.some_left

pub returns-clause-invalid : goal.returns-clause-invalid
returns-clause-invalid g c = λ e. absurd (accepted≢refused _ _ e)

pub returns-clause-memory : goal.returns-clause-memory
returns-clause-memory g c = λ e. absurd (accepted≢refused _ _ e)

pub returns-clause-err : goal.returns-clause-err
returns-clause-err g c = tt

pub returns-in_default-clause-memory : goal.returns-in_default-clause-memory
returns-in_default-clause-memory g c = λ _.
    let last = c.before_last-before.ensures.before in
    omega (
      arith,
      one-more g.Word.WholeNumber.whole _ c.before_last-before.result.now last.0 last.1,
      c.in_default.ensures,
      c.args.cdf.now.ok.1,
      c.args.cdf.now.small,
    )

pub returns-then-is_err-clause-memory : goal.returns-then-is_err-clause-memory
returns-then-is_err-clause-memory g c = λ _.
    let last = c.before_last-before.ensures.before in
    let full = failed c.reserve.result c.is_err.result _ c.is_err.ensures.value c.if-is_err.true c.reserve.ensures.full in
    omega (
      arith,
      one-more g.Word.WholeNumber.whole _ c.before_last-before.result.now last.0 last.1,
      full,
      c.in-Some.ensures,
      c.len.ensures,
      c.saturating_sub.ensures,
      c.args.cdf.now.ok.1,
    )

pub rewritten-requires-clause-room : goal.rewritten-requires-clause-room
rewritten-requires-clause-room g c =
    let room = succeeded c.reserve.result c.is_err.result _ c.is_err.ensures.value c.if-is_err.false c.reserve.ensures.ok in
    omega (
      arith,
      room,
      ap vec_capacity c.replace-old.ensures.value,
      c.in-Some.ensures,
      c.len.ensures,
      c.saturating_sub.ensures,
      c.reserve.ensures.len,
    )
