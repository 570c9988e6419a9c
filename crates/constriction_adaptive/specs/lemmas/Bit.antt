-- The rows of a bit tile, and a bit that comes back is the bit: the impls cite it.
use Rattle.std.specs.Prelude.{◌≡◌, ℕ, ◌-◌, ◌<◌, ◌^◌, [], ◌∷◌, All, Bool, true, false, IsTrue, sum}
use Rattle.std.proofs.Common.{suc, zero, refl, ap, ◌∙◌, arith}
use Rattle.std.proofs.lemmas.List.Sums.{sum_by-cons}
use Rattle.std.specs.Bool.{beq}
use Rattle.constriction_model.specs.Coding.{StandsForEqual}
use Rattle.constriction_model.specs.lemmas.Coding.{rows-within}
use Rattle.constriction_model.specs.Model.{LiesWithin}
use Rattle.constriction_model.specs.Rows.{RowsTile}
use Rattle.constriction_adaptive.specs.Bit.{bit_rows}

-- the rows of a bit tile
pub bit-tile : (weight : ℕ) → 0 < weight → weight < 65536 → RowsTile 32 16 (bit_rows weight)
bit-tile weight some below = record {
  accepted = record {
    tiles = record { positive = positive; total = total };
    fit = fit;
  };
  in_order = refl;
}
  where
    positive : All (λ w. 0 < w) (weight ∷ (65536 - weight) ∷ [])
    positive zero d h = some
    positive (suc zero) d h = omega (arith, below)
    positive (suc (suc k)) d h = absurd (omega (arith, h))

    fit : All (λ w. w < 2 ^ 32) (weight ∷ (65536 - weight) ∷ [])
    fit zero d h = omega (arith, below)
    fit (suc zero) d h = omega arith
    fit (suc (suc k)) d h = absurd (omega (arith, h))

    total : sum (weight ∷ (65536 - weight) ∷ []) ≡ 2 ^ 16
    total = omega (arith, below, sum_by-cons (λ x. x) weight ((65536 - weight) ∷ []), sum_by-cons (λ x. x) (65536 - weight) [])

-- each of them has quantiles, all below 2 ^ 16
pub bit-within : (weight : ℕ) → 0 < weight → weight < 65536 → All (LiesWithin 16) (bit_rows weight)
bit-within weight some below = rows-within 32 16 (bit_rows weight) (bit-tile weight some below)

-- a bit that stands for an equal one is that bit
pub same-bit : (a b : Bool) → StandsForEqual (λ s t. t ≡ s) beq a b → b ≡ a
same-bit a b e = e.2 ∙ go e.0 a e.1
  where
    go : (x y : Bool) → IsTrue (beq x y) → x ≡ y
    go true true h = refl
    go false false h = refl
    go true false h = absurd (let wrong = h in cc)
    go false true h = absurd (let wrong = h in cc)

-- so what comes back for a bit leads to the same state
pub next-same : {State : Type 0} (next : State → Bool → State) (s : State) (symbol answer : Bool)
    → StandsForEqual (λ s t. t ≡ s) beq symbol answer → next s answer ≡ next s symbol
next-same next s symbol answer e = ap (next s) (same-bit symbol answer e)
