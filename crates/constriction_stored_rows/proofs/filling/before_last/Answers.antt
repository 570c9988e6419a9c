use Rattle.std.proofs.Common.{◌-◌, ◌^◌, map, arith}
use Rattle.std.specs.Prelude.{sum}
use Rattle.std.proofs.lemmas.List.{length-map}
use Rattle.constriction_stored_rows.proofs.RefillLemmas.{before-given, before-inferred, before-left, before-none}
use Rattle.constriction_stored_rows.proofs.filling.before_last.Given.{Over}
use Rattle.constriction_stored_rows.proofs.filling.before_last.Goals as goal

pub returns-then-infer_last-clause-before : goal.returns-then-infer_last-clause-before
returns-then-infer_last-clause-before g c =
    let ns = map g.Word.WholeNumber.whole c.args.weights.now in
    (2 ^ g.row.PRECISION - sum ns, before-inferred g.Word.WholeNumber.BITS g.row.PRECISION ns c.args.infer_last c.if-infer_last.true)

pub returns-then-infer_last-clause-some_left : goal.returns-then-infer_last-clause-some_left
returns-then-infer_last-clause-some_left g c =
    let ns = map g.Word.WholeNumber.whole c.args.weights.now in
    before-left g.Word.WholeNumber.BITS g.row.PRECISION _ ns _ c.requires
    (before-inferred g.Word.WholeNumber.BITS g.row.PRECISION ns c.args.infer_last c.if-infer_last.true)

-- accepted weights are some
none : (g : Over) (c : goal.In_default g) → ⊥
none g c =
    before-none g.Word.WholeNumber.BITS g.row.PRECISION (map g.Word.WholeNumber.whole c.args.weights.now) c.args.infer_last
    c.if-infer_last.false (omega (arith, length-map c.args.weights.now g.Word.WholeNumber.whole, c.in_default.ensures.cases)) c.requires

pub returns-in_default-clause-before : goal.returns-in_default-clause-before
returns-in_default-clause-before g c = absurd (none g c)

pub returns-in_default-clause-some_left : goal.returns-in_default-clause-some_left
returns-in_default-clause-some_left g c = absurd (none g c)

pub returns-clause-before : goal.returns-clause-before
returns-clause-before g c = (
  g.Word.WholeNumber.whole c.in-Some.field-0-0.now,
  before-given g.Word.WholeNumber.BITS g.row.PRECISION g.Word.WholeNumber.whole c.args.weights.now c.in-Some.before.now _ c.args.infer_last
      c.if-infer_last.false c.in-Some.ensures.cases.0,
)

pub returns-clause-some_left : goal.returns-clause-some_left
returns-clause-some_left g c =
    before-left g.Word.WholeNumber.BITS g.row.PRECISION _ _ _ c.requires
    (before-given g.Word.WholeNumber.BITS g.row.PRECISION g.Word.WholeNumber.whole c.args.weights.now c.in-Some.before.now _
    c.args.infer_last c.if-infer_last.false c.in-Some.ensures.cases.0)
