-- The numbers of so many bits, all as likely: the entry of each, and the row of each quantile.
use Rattle.std.specs.Prelude.{◌≡◌, ℕ, ◌+◌, ◌-◌, ◌*◌, ◌/◌, ◌^◌, ◌<◌, ◌≤◌, Some, None, nat_eq}
use Rattle.std.proofs.Common.{refl, ap, sym, ◌∙◌, subst, arith, inl, inr}
use Rattle.std.proofs.Math.Nat.{div-lt_iff_lt-mul, eq-or-lt_of_le, mul-div_cancel}
use Rattle.std.proofs.Math.Pow.{pow_mono}
use Rattle.std.proofs.lemmas.Nat.{mul-le, pow-add, pow_pos}
use Rattle.constriction_model.specs.Rows.{IsRowOf, entry_of, uniform_rows}
use Rattle.constriction_model.specs.lemmas.UniformRows.{IsWeight, bin_of, rest_of, uniform-entry, uniform-no_entry, uniform-row_of}

module _ (precision bits : ℕ) (within : bits ≤ precision) where
  abbrev last : ℕ
  last = 2 ^ bits - 1

  many : last + 1 ≡ 2 ^ bits
  many = omega (arith, pow_pos bits)

  below : last < 2 ^ precision
  below = omega (arith, many, pow_mono {i = bits} {j = precision} within)

  abbrev weight : ℕ
  weight = 2 ^ (precision - bits)

  -- as many weights as numbers are all quantiles
  all : weight * 2 ^ bits ≡ 2 ^ precision
  all =
      let e : (precision - bits) + bits ≡ precision = omega (arith, within) in
      sym (pow-add 2 (precision - bits) bits) ∙ ap (λ n. 2 ^ n) e

  bin-is : bin_of precision last ≡ weight
  bin-is = ap (λ n. 2 ^ precision / n) many ∙ ap (λ n. n / 2 ^ bits) (sym all) ∙ mul-div_cancel weight (pow_pos bits)

  rest-is : rest_of precision last ≡ weight
  rest-is =
      let e : weight * 2 ^ bits ≡ weight * last + weight = ap (λ n. weight * n) (sym many) ∙ omega arith in
      ap (λ b. 2 ^ precision - last * b) bin-is ∙ omega (arith, all, e)

  -- the quantiles of a number are below 2 ^ precision
  pub bits-fit : (s : ℕ) → s < 2 ^ bits → s * weight + weight ≤ 2 ^ precision
  bits-fit s h =
      let most : (s + 1) * weight ≤ 2 ^ bits * weight = mul-le (s + 1) weight (2 ^ bits) weight (omega arith) (omega arith) in
      omega (arith, most, all)

  -- the part of some bits lies within the quantiles
  pub bits-lie : (s v w : ℕ) → s < 2 ^ bits → v ≡ weight → w ≡ v → (0 < w) × (s * v + w ≤ 2 ^ precision)
  bits-lie s v w h v_is w_is =
      (omega (arith, v_is, w_is, pow_pos (precision - bits)), omega (arith, v_is, w_is, ap (λ n. s * n) v_is, bits-fit s h))

  -- a quantile is one of a number of so many bits
  pub quotient-below : (q : ℕ) → q < 2 ^ precision → q / weight < 2 ^ bits
  quotient-below q h =
      (div-lt_iff_lt-mul {k = weight} {x = q} {y = 2 ^ bits} (pow_pos (precision - bits))).1 (omega (arith, h, all))

  weight-is : (s : ℕ) → s ≤ last → IsWeight precision last s weight
  weight-is s h = elim (eq-or-lt_of_le h) [ inl same ↦ inr (same, sym rest-is) | inr less ↦ inl (less, sym bin-is) ]

  module _ (s left w : ℕ) (left_is : left ≡ s * w) (w_is : w ≡ weight) where
    left-bin : left ≡ s * bin_of precision last
    left-bin = left_is ∙ ap (λ n. s * n) (w_is ∙ sym bin-is)

    weighs : s ≤ last → IsWeight precision last s w
    weighs h = subst (λ n. IsWeight precision last s n) (sym w_is) (weight-is s h)

    -- the entry of a number of so many bits
    pub bits-entry : s < 2 ^ bits → Some (left, w) ≡ entry_of nat_eq (uniform_rows precision (2 ^ bits)) s
    bits-entry h =
        let h' : s ≤ last = omega (arith, h) in
        uniform-entry precision last below s s left w refl left-bin (weighs h') h'
        ∙ ap (λ n. entry_of nat_eq (uniform_rows precision n) s) many

    -- the row of a quantile
    pub bits-row : (q : ℕ) → q < 2 ^ precision → s ≡ q / w
        → IsRowOf (uniform_rows precision (2 ^ bits)) q (record { symbol = s; left = left; weight = w })
    bits-row q h is =
        let b : w ≡ bin_of precision last = w_is ∙ sym bin-is in
        let h' : s ≤ last = omega (arith, quotient-below q h, is ∙ ap (λ n. q / n) w_is) in
        subst (λ (n : ℕ). IsRowOf (uniform_rows precision n) q (record { symbol = s; left = left; weight = w })) many
        (uniform-row_of precision last below s s left w refl left-bin (weighs h') q w h b (λ _. is) (λ e. omega (arith, e, is)))

  -- a greater number has none
  pub bits-no_entry : (s : ℕ) → 2 ^ bits ≤ s → None ≡ entry_of nat_eq (uniform_rows precision (2 ^ bits)) s
  bits-no_entry s h =
      uniform-no_entry precision last below s (omega (arith, many, h)) ∙ ap (λ n. entry_of nat_eq (uniform_rows precision n) s) many
