use Rattle.std.proofs.Common.{◌≡◌, ◌+◌, ◌^◌, sym, ◌∙◌, arith, inl, inr}
use Rattle.std.proofs.Math.Nat.{div_self}
use Rattle.std.proofs.lemmas.Bool.{cases_lt, false≢true}
use Rattle.constriction_model.proofs.UniformLemmas.{bin-calculated, bin-fits}
use Rattle.constriction_model.proofs.uniform.weights.probability_per_bin.Goals as goal

pub returns-clause-value : goal.returns-clause-value
returns-clause-value g c =
    let value = bin-calculated g.row.PRECISION _ _ _ _ _ _ c.requires.within c.greatest_of_bits-greatest.ensures.value
    c.greatest_of_bits-one.ensures.value c.minus.ensures c.plus-range.ensures c.divided_by.ensures in
    rw c.plus.ensures value

pub returns-then-not-is_below-clause-value : goal.returns-then-not-is_below-clause-value
returns-then-not-is_below-clause-value g c =
    let whole = g.Word.WholeNumber.whole in
    let last = whole c.args.last_symbol in
    elim (cases_lt last (whole c.greatest_of_bits-greatest.result)) [
      | inl less ↦ absurd (false≢true (sym c.if-not-is_below.true ∙ c.is_below.ensures.1 less))
      | inr not ↦
          let all : last + 1 ≡ 2 ^ g.row.PRECISION =
          omega (arith, not, c.greatest_of_bits-greatest.ensures.value, c.requires.within) in
          let one : whole c.greatest_of_bits-one.result ≡ 1 = omega (arith, c.greatest_of_bits-one.ensures.value) in
          one ∙ sym (rw all (div_self (omega (arith, all))))
    ]

pub plus-range-requires : goal.plus-range-requires
plus-range-requires g c =
    omega (
      arith,
      c.is_below.ensures.0 c.if-not-is_below.false,
      c.greatest_of_bits-one.ensures.value,
      c.greatest_of_bits-greatest.ensures.value,
      c.greatest_of_bits-greatest.ensures.within,
    )

pub minus-requires : goal.minus-requires
minus-requires g c = omega (arith, c.is_below.ensures.0 c.if-not-is_below.false)

pub divided_by-requires : goal.divided_by-requires
divided_by-requires g c = omega (arith, c.plus-range.ensures, c.requires.some)

pub plus-requires : goal.plus-requires
plus-requires g c =
    let value = bin-calculated g.row.PRECISION _ _ _ _ _ _ c.requires.within c.greatest_of_bits-greatest.ensures.value
    c.greatest_of_bits-one.ensures.value c.minus.ensures c.plus-range.ensures c.divided_by.ensures in
    omega (
      arith,
      value,
      (bin-fits g.Word.WholeNumber.BITS g.row.PRECISION _ c.requires.precision.fits c.requires.some c.requires.within).0,
    )
