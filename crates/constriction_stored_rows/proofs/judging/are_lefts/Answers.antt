use Rattle.std.proofs.Common.{◌≡◌, ◌+◌, ◌^◌, ◌<◌, ◌≤◌, map, length, ap, sym, ◌∙◌, add-one, arith, inl, inr, rules}
use Rattle.std.proofs.Math.Nat.{pow-le-pow_right}
use Rattle.std.proofs.lemmas.Bool.{cases_lt, false≢true, true_from_ne_false}
use Rattle.std.proofs.lemmas.List.{length-map}
use Rattle.constriction_stored_rows.specs.lemmas.Stored.{read-whole}
use Rattle.constriction_stored_rows.proofs.JudgeLemmas.{begun-next, not_stored-empty, not_stored-next, not_stored-end, stored-end}
use Rattle.constriction_stored_rows.proofs.judging.are_lefts.Goals as goal

pub returns-in_default : goal.returns-in_default
returns-in_default g c = (
  λ no. absurd (false≢true no),
  λ t. absurd (not_stored-empty g.Word.WholeNumber.BITS g.row.PRECISION (map g.Word.WholeNumber.whole c.args.lefts.now)
      (omega (arith, length-map c.args.lefts.now g.Word.WholeNumber.whole, c.in_default.ensures.cases)) t),
)

pub returns-then-is_at_most : goal.returns-then-is_at_most
returns-then-is_at_most g c =
    let whole = g.Word.WholeNumber.whole in
    let i = c.loop-left.left-index in
    let rest = map whole c.in-Some.rest.now in
    let long : i < length rest = omega (arith, length-map c.in-Some.rest.now whole) in (
      λ no. absurd (false≢true no),
      λ t. absurd (not_stored-next g.Word.WholeNumber.BITS g.row.PRECISION (map whole c.args.lefts.now) rest (whole c.in-Some.first.now) i
          (whole c.loop-left.before) (ap (map whole) c.in-Some.ensures.cases.0) c.loop-left.invariant.1 (whole c.left-item.result) long
          (read-whole whole c.in-Some.rest.now i c.left-item.result (omega arith) c.left-item.is)
          (c.is_at_most.ensures.0 c.if-is_at_most.true) t),
    )

pub loop-left-preserved : goal.loop-left-preserved
loop-left-preserved g c =
    let whole = g.Word.WholeNumber.whole in
    let i = c.loop-left.left-index in
    let rest = map whole c.in-Some.rest.now in
    let long : i < length rest = omega (arith, length-map c.in-Some.rest.now whole) in
    let read = read-whole whole c.in-Some.rest.now i c.left-item.result (omega arith) c.left-item.is in
    let more : whole c.loop-left.before < whole c.left-item.result =
    elim (cases_lt (whole c.loop-left.before) (whole c.left-item.result)) [
      | inl less ↦ less
      | inr not ↦ absurd (false≢true (sym c.if-is_at_most.false ∙ c.is_at_most.ensures.1 not))
    ] in (
      (
        _,
        begun-next (whole c.in-Some.first.now) rest c.loop-left.invariant.0.0 i (whole c.loop-left.before) (whole c.left-item.result)
            c.loop-left.invariant.0.1 long read more,
      ),
      rw add-one read,
    )

pub returns-then-not-is_at_most : goal.returns-then-not-is_at_most
returns-then-not-is_at_most g c =
    let whole = g.Word.WholeNumber.whole in
    let rest = map whole c.in-Some.rest.now in (
      λ no. absurd (false≢true no),
      λ t. absurd (not_stored-end g.Word.WholeNumber.BITS g.row.PRECISION (map whole c.args.lefts.now) rest (whole c.in-Some.first.now)
          c.loop-left.left-index (whole c.loop-left.before) (ap (map whole) c.in-Some.ensures.cases.0) c.loop-left.invariant.1
          (omega (arith, length-map c.in-Some.rest.now whole))
          (inl (let much : whole c.greatest_of_bits-greatest.result < whole c.loop-left.before = search rules in
          omega (arith, much, c.greatest_of_bits-greatest.ensures.value))) t),
    )

pub returns : goal.returns
returns g c =
    let whole = g.Word.WholeNumber.whole in
    let bits = g.Word.WholeNumber.BITS in
    let rest = map whole c.in-Some.rest.now in
    let wide : 2 ^ g.row.PRECISION ≤ 2 ^ bits = pow-le-pow_right {n = 2} (omega arith) c.requires.fits in
    let end : c.loop-left.left-index ≡ length rest = omega (arith, length-map c.in-Some.rest.now whole) in
    let most : whole c.loop-left.before ≤ whole c.greatest_of_bits-greatest.result = search rules in
    let left : whole c.loop-left.before + whole c.minus.result + 1 ≡ 2 ^ g.row.PRECISION =
    omega (arith, most, c.minus.ensures, c.greatest_of_bits-greatest.ensures.value) in (
      λ yes. stored-end bits g.row.PRECISION (map whole c.args.lefts.now) rest (whole c.in-Some.first.now)
          c.loop-left.left-index (whole c.loop-left.before) (ap (map whole) c.in-Some.ensures.cases.0) c.loop-left.invariant.1
          c.loop-left.invariant.0.0 (whole c.minus.result) wide c.loop-left.invariant.0.1 end left
          (c.is_inferred_last.ensures.inferred yes).1,
      λ t. true_from_ne_false c.is_inferred_last.result (λ no. elim (c.is_inferred_last.ensures.bad no) [
        | inl other ↦ absurd (false≢true (sym other))
        | inr much ↦ not_stored-end bits g.row.PRECISION (map whole c.args.lefts.now) rest (whole c.in-Some.first.now)
            c.loop-left.left-index (whole c.loop-left.before) (ap (map whole) c.in-Some.ensures.cases.0) c.loop-left.invariant.1
            end (inr (omega (arith, much.1, left))) t
      ]),
    )
