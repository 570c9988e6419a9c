use Rattle.std.proofs.Common.{sym, ◌∙◌, arith}
use Rattle.std.proofs.lemmas.Bool.{false≢true}
use Rattle.std.proofs.lemmas.List.{length-map}
use Rattle.constriction_stored_rows.proofs.CdfLemmas.{cdf-long, cdf-split}
use Rattle.constriction_stored_rows.proofs.judging.is_cdf.Goals as goal

pub returns-in_default : goal.returns-in_default
returns-in_default g c = (
  λ h. absurd (false≢true h),
  λ t. absurd (omega (
    arith,
    cdf-long g.Word.WholeNumber.BITS g.row.PRECISION _ t,
    length-map c.args.words.now g.Word.WholeNumber.whole,
    c.in_default.ensures.cases,
  )),
)

pub returns-then-is_total : goal.returns-then-is_total
returns-then-is_total g c =
    let split = cdf-split g.Word.WholeNumber.whole g.Word.WholeNumber.BITS g.row.PRECISION c.args.words.now c.in-Some.lefts.now
    c.in-Some.total.now c.in-Some.ensures.cases.0 in (
      (λ h. split.1 (c.is_total.ensures.0 c.if-is_total.true, c.are_lefts.ensures.0 h)),
      (λ t. c.are_lefts.ensures.1 (split.0 t).1),
    )

pub returns-else-is_total : goal.returns-else-is_total
returns-else-is_total g c =
    let split = cdf-split g.Word.WholeNumber.whole g.Word.WholeNumber.BITS g.row.PRECISION c.args.words.now c.in-Some.lefts.now
    c.in-Some.total.now c.in-Some.ensures.cases.0 in (
      (λ h. absurd (false≢true (sym c.if-is_total.false ∙ h))),
      (λ t. c.is_total.ensures.1 (split.0 t).0),
    )
