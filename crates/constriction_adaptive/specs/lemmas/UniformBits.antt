-- The numbers of so many bits, all as likely: their rows tile. The impls cite it.
use Rattle.std.specs.Prelude.{◌≡◌, ℕ, ◌+◌, ◌-◌, ◌*◌, ◌/◌, ◌^◌, ◌<◌, ◌≤◌, All, [], ◌∷◌}
use Rattle.std.proofs.Common.{suc, zero, refl, subst, arith}
use Rattle.std.proofs.Math.Pow.{pow_mono}
use Rattle.std.proofs.lemmas.Nat.{pow_pos}
use Rattle.constriction_model.specs.Model.{LiesWithin}
use Rattle.constriction_model.specs.Precision.{IsPrecision}
use Rattle.constriction_model.specs.Rows.{RowsTile, uniform_rows}
use Rattle.constriction_model.specs.lemmas.Coding.{rows-within}
use Rattle.constriction_model.specs.lemmas.UniformRows.{uniform-tiles}

-- such a precision is one over words of 32 bits
pub word-precision : (precision : ℕ) → IsPrecision 31 precision → IsPrecision 32 precision
word-precision precision p = record { positive = p.positive; fits = omega (arith, p.fits) }

-- a number of no bits has all quantiles
one-tiles : (precision : ℕ) → IsPrecision 31 precision → RowsTile 32 precision (uniform_rows precision 1)
one-tiles precision p = record {
  accepted = record { tiles = record { positive = positive; total = omega (arith, all) }; fit = fit };
  in_order = refl;
}
  where
    weight : ℕ
    weight = 2 ^ precision - 0 * (2 ^ precision / 1)

    all : weight ≡ 2 ^ precision
    all = omega arith

    positive : All (λ w. 0 < w) (weight ∷ [])
    positive zero d h = omega (arith, all, pow_pos precision)
    positive (suc k) d h = absurd (omega (arith, h))

    fit : All (λ w. w < 2 ^ 32) (weight ∷ [])
    fit zero d h = omega (arith, all, pow_mono {i = precision} {j = 31} p.fits)
    fit (suc k) d h = absurd (omega (arith, h))

module _ (precision bits : ℕ) (p : IsPrecision 31 precision) (within : bits ≤ precision) where
  -- the rows tile
  pub bits-tile : RowsTile 32 precision (uniform_rows precision (2 ^ bits))
  bits-tile = go bits within
    where
      go : (k : ℕ) → k ≤ precision → RowsTile 32 precision (uniform_rows precision (2 ^ k))
      go zero h = one-tiles precision p
      go (suc k) h =
          let last : ℕ = 2 ^ suc k - 1 in
          let two : 2 ^ 1 ≤ 2 ^ suc k = pow_mono {i = 1} {j = suc k} (omega arith) in
          let all : 2 ^ suc k ≤ 2 ^ precision = pow_mono {i = suc k} {j = precision} h in
          let many : last + 1 ≡ 2 ^ suc k = omega (arith, two) in
          subst (λ (n : ℕ). RowsTile 32 precision (uniform_rows precision n)) many
          (uniform-tiles precision last (omega (arith, two, all)) 32 (omega (arith, p.fits)) (omega (arith, two)))

  -- each of them has quantiles, all below 2 ^ precision
  pub bits-within : All (LiesWithin precision) (uniform_rows precision (2 ^ bits))
  bits-within = rows-within 32 precision _ bits-tile
