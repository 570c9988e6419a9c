use Rattle.std.proofs.Common.{◌≡◌, ◌+◌, ◌%◌, ◌^◌, ◌<◌, true, false, subst, arith, inl, inr}
use Rattle.std.proofs.lemmas.Bool.{cases_lt}
use Rattle.constriction_stored_rows.proofs.FillLemmas.{wrapped}
use Rattle.constriction_stored_rows.proofs.filling.leaves_some.Goals as goal

pub returns-clause-some : goal.returns-clause-some
returns-clause-some g c = λ h.
    let whole = g.Word.WholeNumber.whole in
    let last = whole c.wrapping_minus-last.result in
    let is : (last + 1) % 2 ^ g.Word.WholeNumber.BITS ≡ whole c.args.weight =
    subst (λ n. (last + n) % 2 ^ g.Word.WholeNumber.BITS ≡ whole c.args.weight) c.requires.one c.wrapping_minus-last.ensures.difference in
    let either = wrapped (2 ^ g.Word.WholeNumber.BITS) last (whole c.args.weight) is c.wrapping_minus-last.ensures.range in
    let less : last < whole c.args.room = c.is_below.ensures.0 h in
    elim either [
      | inl zero ↦ absurd (omega (arith, less, zero.1, c.requires.range))
      | inr more ↦ (omega (arith, more.0), omega (arith, less, more.0))
    ]

pub returns-clause-none : goal.returns-clause-none
returns-clause-none g c = λ h.
    let whole = g.Word.WholeNumber.whole in
    let last = whole c.wrapping_minus-last.result in
    let is : (last + 1) % 2 ^ g.Word.WholeNumber.BITS ≡ whole c.args.weight =
    subst (λ n. (last + n) % 2 ^ g.Word.WholeNumber.BITS ≡ whole c.args.weight) c.requires.one c.wrapping_minus-last.ensures.difference in
    let either = wrapped (2 ^ g.Word.WholeNumber.BITS) last (whole c.args.weight) is c.wrapping_minus-last.ensures.range in
    elim (cases_lt last (whole c.args.room)) [
      | inl less ↦
          let yes : c.is_below.result ≡ true = c.is_below.ensures.1 less in
          let no : c.is_below.result ≡ false = h in
          cc (yes, no)
      | inr most ↦ elim either [ inl zero ↦ inl zero.0 | inr more ↦ inr (omega (arith, most, more.0)) ]
    ]
