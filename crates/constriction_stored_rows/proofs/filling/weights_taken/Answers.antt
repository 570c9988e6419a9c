use Rattle.std.proofs.Common.{◌∷◌, ◌++◌, [], refl, map, true, arith, rules, inl, inr}
use Rattle.std.proofs.lemmas.List.{map-append}
use Rattle.std.proofs.lemmas.Result.{IfOk-from_err}
use Rattle.constriction_stored_rows.proofs.FillLemmas.{accepted≢refused, table≢memory, begun-none, begun-more, begun-given, begun-bad_given, begun-inferred, begun-bad_inferred, begun-ended, begun-ended_inferred}
use Rattle.constriction_stored_rows.proofs.filling.weights_taken.Goals as goal

pub rows-init : goal.rows-init
rows-init g c = (
  c.requires.goes,
  c.requires.ends,
  (
    [],
    begun-none g.Weights.Iterator.next_gives _ g.Word.WholeNumber.whole g.Word.WholeNumber.BITS g.row.PRECISION c.least-left.result
        (g.Word.WholeNumber.whole c.greatest_of_bits-room.result) c.least-left.ensures c.greatest_of_bits-room.ensures.value,
    c.requires.none,
  ),
)

pub returns-then-not-fills_all-clause-invalid : goal.returns-then-not-fills_all-clause-invalid
returns-then-not-fills_all-clause-invalid g c = λ _.
    begun-bad_given c.rows.invariant.2.1 c.args.infer_last _ _ _ c.in-Some.weight c.rows.taken c.in-Some.ensures.steps c.rows.invariant.2.2
    (inl (c.fills_all.ensures.bad c.if-not-fills_all.true))

pub returns-in_err-take_weight-clause-invalid : goal.returns-in_err-take_weight-clause-invalid
returns-in_err-take_weight-clause-invalid g c = λ e.
    begun-ended c.rows.invariant.2.1 c.args.infer_last _ _ _ c.in-Some.weight c.in-Some.ensures.steps
    (c.take_weight.ensures.ended (search rules) _ _ c.rows.invariant.2.2)

pub returns-in-Some-next-clause-invalid : goal.returns-in-Some-next-clause-invalid
returns-in-Some-next-clause-invalid g c = λ _.
    let fills = c.fills_all.ensures.filled c.if-not-fills_all.false in
    begun-bad_given c.rows.invariant.2.1 c.args.infer_last _ _ _ c.in-Some.weight c.rows.taken c.in-Some.ensures.steps c.rows.invariant.2.2
    (inr (omega (arith, fills.is), _, c.in-Some-next.field-0, c.in-Some-next.ensures.steps))

pub returns-then-not-leaves_some-clause-ok : goal.returns-then-not-leaves_some-clause-ok
returns-then-not-leaves_some-clause-ok g c =
    begun-given c.rows.invariant.2.1 c.args.infer_last (g.Taken.TakesWeights.took _) _ _ c.in-Some.weight _ c.in-Some.ensures.steps
    (c.fills_all.ensures.filled c.if-not-fills_all.false) c.in_default-next.ensures.steps
    (c.in_ok-take_weight.ensures.took (refl {a = true}) _ _ c.rows.invariant.2.2 c.rows.invariant.2.1.filled.is)

pub returns-in_err-take_weight-2-clause-invalid : goal.returns-in_err-take_weight-2-clause-invalid
returns-in_err-take_weight-2-clause-invalid g c = λ e.
    begun-ended c.rows.invariant.2.1 c.args.infer_last _ _ _ c.in-Some.weight c.in-Some.ensures.steps
    (c.take_weight-in-Some.ensures.ended (search rules) _ _ c.rows.invariant.2.2)

pub rows-preserved : goal.rows-preserved
rows-preserved g c =
    let next = c.in-Some.ensures.goes.on c.rows.invariant.1 in (
      next.0,
      next.1,
      (
        c.rows.invariant.2.0 ++ c.in-Some.weight ∷ [],
        begun-more c.rows.invariant.2.1 _ c.in-Some.weight c.plus-left.result (g.Word.WholeNumber.whole c.minus-room.result)
            c.in-Some.ensures.steps c.greatest_of_bits-room.ensures.within (c.leaves_some.ensures.some c.if-not-leaves_some.false)
            c.plus-left.ensures c.minus-room.ensures,
        rw map-append (c.in_ok-take_weight-2.ensures.took (refl {a = true}) _ _ c.rows.invariant.2.2 c.rows.invariant.2.1.filled.is),
      ),
    )

pub returns-then-not-is_inferred_last-clause-invalid : goal.returns-then-not-is_inferred_last-clause-invalid
returns-then-not-is_inferred_last-clause-invalid g c = λ _.
    begun-bad_inferred c.rows.invariant.2.1 c.args.infer_last _ _ _ c.rows.taken c.in_default.ensures.steps c.rows.invariant.2.2
    (c.is_inferred_last.ensures.bad c.if-not-is_inferred_last.true)

pub returns-in_err-take_weight-3-clause-invalid : goal.returns-in_err-take_weight-3-clause-invalid
returns-in_err-take_weight-3-clause-invalid g c = λ e.
    begun-ended_inferred c.rows.invariant.2.1 c.args.infer_last _ _ _ c.in_default.ensures.steps
    (c.is_inferred_last.ensures.inferred c.if-not-is_inferred_last.false).0
    (c.take_weight-2.ensures.ended (search rules) _ _ c.rows.invariant.2.2)

pub returns-clause-ok : goal.returns-clause-ok
returns-clause-ok g c =
    begun-inferred c.rows.invariant.2.1 c.args.infer_last (g.Taken.TakesWeights.took _) _ (g.Word.WholeNumber.whole c.plus.result) _
    c.in_default.ensures.steps (c.is_inferred_last.ensures.inferred c.if-not-is_inferred_last.false)
    (omega (arith, c.plus.ensures, c.greatest_of_bits-one.ensures.value))
    (c.in_ok-take_weight-3.ensures.took (refl {a = true}) _ _ c.rows.invariant.2.2 c.rows.invariant.2.1.filled.is)

pub leaves_some-requires-clause-one : goal.leaves_some-requires-clause-one
leaves_some-requires-clause-one g c = omega (arith, c.greatest_of_bits-one.ensures.value)

pub leaves_some-requires-clause-range : goal.leaves_some-requires-clause-range
leaves_some-requires-clause-range g c =
    omega (arith, c.rows.invariant.2.1.rest, c.greatest_of_bits-room.ensures.value, c.greatest_of_bits-room.ensures.within)

pub fills_all-requires-clause-one : goal.fills_all-requires-clause-one
fills_all-requires-clause-one g c = omega (arith, c.greatest_of_bits-one.ensures.value)

pub fills_all-requires-clause-none_left : goal.fills_all-requires-clause-none_left
fills_all-requires-clause-none_left g c = c.leaves_some.ensures.none c.if-not-leaves_some.true

pub returns-then-not-fills_all-clause-ok : goal.returns-then-not-fills_all-clause-ok
returns-then-not-fills_all-clause-ok g c = tt

pub returns-then-not-fills_all-clause-memory : goal.returns-then-not-fills_all-clause-memory
returns-then-not-fills_all-clause-memory g c = λ e. absurd (table≢memory _ refl e)

pub take_weight-requires-clause-positive : goal.take_weight-requires-clause-positive
take_weight-requires-clause-positive g c = (c.fills_all.ensures.filled c.if-not-fills_all.false).positive

pub take_weight-requires-clause-begun : goal.take_weight-requires-clause-begun
take_weight-requires-clause-begun g c =
    (c.args.taken, map g.Word.WholeNumber.whole c.rows.invariant.2.0, c.rows.invariant.2.2, c.rows.invariant.2.1.filled.is)

pub returns-in_err-take_weight-clause-ok : goal.returns-in_err-take_weight-clause-ok
returns-in_err-take_weight-clause-ok g c = IfOk-from_err c.from_residual.result _ c.from_residual.ensures.0

pub returns-in_err-take_weight-clause-memory : goal.returns-in_err-take_weight-clause-memory
returns-in_err-take_weight-clause-memory g c = λ e. c.take_weight.ensures.memory (search rules)

pub next-requires-then-not-leaves_some : goal.next-requires-then-not-leaves_some
next-requires-then-not-leaves_some g c = (c.in-Some.ensures.goes.on c.rows.invariant.1).0

pub returns-in-Some-next-clause-ok : goal.returns-in-Some-next-clause-ok
returns-in-Some-next-clause-ok g c = tt

pub returns-in-Some-next-clause-memory : goal.returns-in-Some-next-clause-memory
returns-in-Some-next-clause-memory g c = λ e. absurd (table≢memory _ refl e)

pub returns-then-not-leaves_some-clause-invalid : goal.returns-then-not-leaves_some-clause-invalid
returns-then-not-leaves_some-clause-invalid g c = λ e. absurd (accepted≢refused _ _ e)

pub returns-then-not-leaves_some-clause-memory : goal.returns-then-not-leaves_some-clause-memory
returns-then-not-leaves_some-clause-memory g c = λ e. absurd (accepted≢refused _ _ e)

pub plus-left-requires : goal.plus-left-requires
plus-left-requires g c =
    omega (
      arith,
      c.rows.invariant.2.1.rest,
      c.greatest_of_bits-room.ensures.value,
      c.greatest_of_bits-room.ensures.within,
      (c.leaves_some.ensures.some c.if-not-leaves_some.false).1,
    )

pub minus-room-requires : goal.minus-room-requires
minus-room-requires g c = (c.leaves_some.ensures.some c.if-not-leaves_some.false).1

pub take_weight-requires-in-Some-clause-positive : goal.take_weight-requires-in-Some-clause-positive
take_weight-requires-in-Some-clause-positive g c = (c.leaves_some.ensures.some c.if-not-leaves_some.false).0

pub take_weight-requires-in-Some-clause-begun : goal.take_weight-requires-in-Some-clause-begun
take_weight-requires-in-Some-clause-begun g c =
    (c.args.taken, map g.Word.WholeNumber.whole c.rows.invariant.2.0, c.rows.invariant.2.2, c.rows.invariant.2.1.filled.is)

pub returns-in_err-take_weight-2-clause-ok : goal.returns-in_err-take_weight-2-clause-ok
returns-in_err-take_weight-2-clause-ok g c =
    IfOk-from_err c.from_residual-in_err-take_weight-2.result _ c.from_residual-in_err-take_weight-2.ensures.0

pub returns-in_err-take_weight-2-clause-memory : goal.returns-in_err-take_weight-2-clause-memory
returns-in_err-take_weight-2-clause-memory g c = λ e. c.take_weight-in-Some.ensures.memory (search rules)

pub is_inferred_last-requires : goal.is_inferred_last-requires
is_inferred_last-requires g c =
    omega (arith, c.rows.invariant.2.1.rest, c.greatest_of_bits-room.ensures.value, c.greatest_of_bits-room.ensures.within)

pub returns-then-not-is_inferred_last-clause-ok : goal.returns-then-not-is_inferred_last-clause-ok
returns-then-not-is_inferred_last-clause-ok g c = tt

pub returns-then-not-is_inferred_last-clause-memory : goal.returns-then-not-is_inferred_last-clause-memory
returns-then-not-is_inferred_last-clause-memory g c = λ e. absurd (table≢memory _ refl e)

pub plus-requires : goal.plus-requires
plus-requires g c =
    omega (arith, (c.is_inferred_last.ensures.inferred c.if-not-is_inferred_last.false).1, c.greatest_of_bits-one.ensures.value)

pub take_weight-requires-2-clause-positive : goal.take_weight-requires-2-clause-positive
take_weight-requires-2-clause-positive g c = omega (arith, c.plus.ensures, c.greatest_of_bits-one.ensures.value)

pub take_weight-requires-2-clause-begun : goal.take_weight-requires-2-clause-begun
take_weight-requires-2-clause-begun g c =
    (c.args.taken, map g.Word.WholeNumber.whole c.rows.invariant.2.0, c.rows.invariant.2.2, c.rows.invariant.2.1.filled.is)

pub returns-in_err-take_weight-3-clause-ok : goal.returns-in_err-take_weight-3-clause-ok
returns-in_err-take_weight-3-clause-ok g c =
    IfOk-from_err c.from_residual-in_err-take_weight-3.result _ c.from_residual-in_err-take_weight-3.ensures.0

pub returns-in_err-take_weight-3-clause-memory : goal.returns-in_err-take_weight-3-clause-memory
returns-in_err-take_weight-3-clause-memory g c = λ e. c.take_weight-2.ensures.memory (search rules)

pub returns-clause-invalid : goal.returns-clause-invalid
returns-clause-invalid g c = λ e. absurd (accepted≢refused _ _ e)

pub returns-clause-memory : goal.returns-clause-memory
returns-clause-memory g c = λ e. absurd (accepted≢refused _ _ e)
