use Rattle.std.proofs.Common.{◌≡◌, ◌+◌, ◌%◌, ◌^◌, ◌≤◌, true, false, subst, arith, inl, inr}
use Rattle.std.proofs.lemmas.Bool.{cases_lt}
use Rattle.constriction_stored_rows.proofs.FillLemmas.{wrapped}
use Rattle.constriction_stored_rows.proofs.filling.fills_all.Goals as goal

pub returns-clause-filled : goal.returns-clause-filled
returns-clause-filled g c = λ h.
    let whole = g.Word.WholeNumber.whole in
    let last = whole c.wrapping_minus-last.result in
    let is : (last + 1) % 2 ^ g.Word.WholeNumber.BITS ≡ whole c.args.weight =
    subst (λ n. (last + n) % 2 ^ g.Word.WholeNumber.BITS ≡ whole c.args.weight) c.requires.one c.wrapping_minus-last.ensures.difference in
    let either = wrapped (2 ^ g.Word.WholeNumber.BITS) last (whole c.args.weight) is c.wrapping_minus-last.ensures.range in
    let most : last ≤ whole c.args.room = c.is_at_most.ensures.0 h in
    elim either [
      | inl zero ↦
          let least : c.is_zero_word.result ≡ true = c.is_zero_word.ensures.1 zero.0 in
          let some : c.is_zero_word.result ≡ false = c.if-is_zero_word.false in
          cc (least, some)
      | inr more ↦
          let weight : whole c.args.weight ≡ last + 1 = more.0 in
          elim c.requires.none_left [
            | inl none ↦ absurd (omega (arith, none, weight))
            | inr above ↦ record {
              given = c.if-infer_last.false;
              positive = omega (arith, weight);
              fits = more.1;
              is = omega (arith, weight, most, above);
            }
          ]
    ]

pub returns-clause-bad : goal.returns-clause-bad
returns-clause-bad g c = λ h.
    let whole = g.Word.WholeNumber.whole in
    let last = whole c.wrapping_minus-last.result in
    let is : (last + 1) % 2 ^ g.Word.WholeNumber.BITS ≡ whole c.args.weight =
    subst (λ n. (last + n) % 2 ^ g.Word.WholeNumber.BITS ≡ whole c.args.weight) c.requires.one c.wrapping_minus-last.ensures.difference in
    let either = wrapped (2 ^ g.Word.WholeNumber.BITS) last (whole c.args.weight) is c.wrapping_minus-last.ensures.range in
    elim (cases_lt (whole c.args.room) last) [
      | inl much ↦ elim either [ inl zero ↦ inl zero.0 | inr more ↦ inr (inl (omega (arith, much, more.0))) ]
      | inr most ↦
          let yes : c.is_at_most.result ≡ true = c.is_at_most.ensures.1 most in
          let no : c.is_at_most.result ≡ false = h in
          cc (yes, no)
    ]
