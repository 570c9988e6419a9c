-- A state is divided by way of the reciprocal of the divisor.
use Rattle.std.proofs.Common.{◌≡◌, ℕ, ◌+◌, ◌-◌, ◌*◌, ◌/◌, ◌%◌, ◌^◌, ◌<◌, ◌≤◌, ap, sym, ◌∙◌, arith}
use Rattle.std.proofs.lemmas.Nat.{div-mul-add, mod-mul-add, mod_below, mul-le, div-add-mod'}
use Rattle.std.proofs.Math.Nat.{mul_assoc, mul_comm}

-- (2 ^ 64 - 1) / weight, rounded down, is the reciprocal
pub is_reciprocal : (weight : ℕ) → 0 < weight
    → ((2 ^ 64 - 1) / weight * weight < 2 ^ 64) × (2 ^ 64 ≤ ((2 ^ 64 - 1) / weight + 1) * weight)
is_reciprocal weight some =
    let whole = div-add-mod' (2 ^ 64 - 1) weight in
    let rest = mod_below (2 ^ 64 - 1) weight some in
    (omega (arith, whole), omega (arith, whole, rest))

-- the multiple of the divisor that is at most n, and less than the divisor away, is the quotient's
quotient_is : (n divisor quotient : ℕ) → quotient * divisor ≤ n → n < quotient * divisor + divisor
    → (quotient ≡ n / divisor) × (n - quotient * divisor ≡ n % divisor)
quotient_is n divisor quotient from to =
    let rest : ℕ = n - quotient * divisor in
    let whole : quotient * divisor + rest ≡ n = omega (arith, from) in
    let less : rest < divisor = omega (arith, from, to) in (
      sym (div-mul-add quotient divisor rest less) ∙ ap (λ m. m / divisor) whole,
      sym (mod-mul-add quotient divisor rest less) ∙ ap (λ m. m % divisor) whole,
    )

-- The high half of the product of the state and the reciprocal estimates the quotient.
module _ (state weight reciprocal : ℕ) (fits : state < 2 ^ 64) (at_most : reciprocal * weight < 2 ^ 64)
    (no_less : 2 ^ 64 ≤ (reciprocal + 1) * weight) where
  moved : (estimate : ℕ) → estimate * 2 ^ 64 * weight ≡ estimate * weight * 2 ^ 64
  moved estimate =
      mul_assoc estimate (2 ^ 64) weight ∙ ap (λ n. estimate * n) (mul_comm (2 ^ 64) weight)
      ∙ sym (mul_assoc estimate weight (2 ^ 64))

  -- it is no more than the quotient
  pub estimate_fits : state * reciprocal / 2 ^ 64 * weight ≤ state
  estimate_fits =
      let estimate : ℕ = state * reciprocal / 2 ^ 64 in
      let part : estimate * 2 ^ 64 ≤ state * reciprocal = omega (arith, div-add-mod' (state * reciprocal) (2 ^ 64)) in
      let scaled : estimate * 2 ^ 64 * weight ≤ state * reciprocal * weight =
      mul-le (estimate * 2 ^ 64) weight (state * reciprocal) weight part (omega arith) in
      let all : state * (reciprocal * weight) ≤ state * 2 ^ 64 =
      mul-le state (reciprocal * weight) state (2 ^ 64) (omega arith) (omega (arith, at_most)) in
      omega (arith, scaled, all, moved estimate, mul_assoc state reciprocal weight)

  -- it is one less at most
  estimate_near : state < state * reciprocal / 2 ^ 64 * weight + 2 * weight
  estimate_near =
      let estimate : ℕ = state * reciprocal / 2 ^ 64 in
      let part : state * reciprocal < (estimate + 1) * 2 ^ 64 =
      omega (arith, div-add-mod' (state * reciprocal) (2 ^ 64), mod_below (state * reciprocal) (2 ^ 64) (omega arith)) in
      let scaled : (state * reciprocal + 1) * weight ≤ (estimate + 1) * 2 ^ 64 * weight =
      mul-le (state * reciprocal + 1) weight ((estimate + 1) * 2 ^ 64) weight (omega (arith, part)) (omega arith) in
      let all : state * 2 ^ 64 ≤ state * ((reciprocal + 1) * weight) =
      mul-le state (2 ^ 64) state ((reciprocal + 1) * weight) (omega arith) no_less in
      let own : state * weight ≤ (2 ^ 64 - 1) * weight =
      mul-le state weight (2 ^ 64 - 1) weight (omega (arith, fits)) (omega arith) in
      omega (
        arith,
        scaled,
        all,
        own,
        moved estimate,
        mul_assoc state reciprocal weight,
        mul_assoc state (reciprocal + 1) weight,
      )

  -- if what it leaves is less than the weight, it is the quotient
  pub estimate_exact : state - state * reciprocal / 2 ^ 64 * weight < weight
      → (state * reciprocal / 2 ^ 64 ≡ state / weight)
      × (state - state * reciprocal / 2 ^ 64 * weight ≡ state % weight)
  estimate_exact less =
      quotient_is state weight (state * reciprocal / 2 ^ 64) estimate_fits (omega (arith, estimate_fits, less))

  -- and otherwise it is one less
  pub estimate_short : weight ≤ state - state * reciprocal / 2 ^ 64 * weight
      → (state * reciprocal / 2 ^ 64 + 1 ≡ state / weight)
      × (state - state * reciprocal / 2 ^ 64 * weight - weight ≡ state % weight)
  estimate_short least =
      let estimate : ℕ = state * reciprocal / 2 ^ 64 in
      let next = quotient_is state weight (estimate + 1) (omega (arith, estimate_fits, least)) (omega (arith, estimate_near)) in
      (next.0, omega (arith, estimate_fits, least, next.1))
