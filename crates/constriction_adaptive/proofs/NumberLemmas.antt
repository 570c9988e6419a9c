-- Bounds of the numbers of logistic mixing.
use Rattle.std.proofs.Common.{◌≡◌, ℕ, suc, ◌+◌, ◌-◌, ◌*◌, ◌/◌, ◌%◌, ◌^◌, ◌<◌, ◌≤◌, arith, inl, inr}
use Rattle.std.proofs.Math.Nat.{pow-suc}
use Rattle.std.proofs.Math.Pow.{pow_mono}
use Rattle.std.proofs.lemmas.Bool.{cases_lt}
use Rattle.std.proofs.lemmas.Nat.{leading_top, div_below, mul-le, pow_pos}
use Rattle.constriction_adaptive.specs.Mixing.{logarithm, tail}

-- a power of 2 below 2 ^ 13
power_below : (j x : ℕ) → 2 ^ j ≤ x → x < 8192 → j < 13
power_below j x from below =
    elim (cases_lt j 13) [
      | inl h ↦ h
      | inr h ↦ absurd (let m : 2 ^ 13 ≤ 2 ^ j = pow_mono h in omega arith)
    ]

-- a logarithm whose whole part is j
at_place : (c j x : ℕ) → c + suc j ≡ 32 → 2 ^ j ≤ x → x < 2 ^ suc j → x < 8192 → 128 * (31 - c) + 128 * x / 2 ^ (31 - c) - 128 < 2048
at_place c j x place from to below =
    let e : 31 - c ≡ j = omega arith in
    let few : j < 13 = power_below j x from below in
    let double : 2 ^ suc j ≡ 2 ^ j * 2 = pow-suc 2 j in
    let part : 128 * x / 2 ^ j < 256 = div_below (128 * x) (2 ^ j) 256 (pow_pos j) (omega arith) in
    rw e (omega arith)

-- the logarithm of a number below 8192 is below 2048
pub logarithm-below : (x : ℕ) → 0 < x → x < 8192 → logarithm x < 2048
logarithm-below x some below =
    let t = leading_top 32 x some (omega (arith, below)) in at_place _ t.0 x t.1 t.2 t.3 below

-- no bit that another one beats has more than half
tail_above : (r p : ℕ) → 0 < p → 128 ≤ (128 + r) * p
tail_above r p some = let part : 128 * 1 ≤ (128 + r) * p = mul-le 128 1 (128 + r) p (omega arith) some in part

-- the tail of a lead is at most 32768
pub tail_most : (lead : ℕ) → tail lead ≤ 32768
tail_most lead =
    let above : 128 ≤ (128 + lead % 128) * 2 ^ (lead / 128) = tail_above (lead % 128) (2 ^ (lead / 128)) (pow_pos (lead / 128)) in
    let below : 8388608 / ((128 + lead % 128) * 2 ^ (lead / 128) + 128) < 32769 =
    div_below 8388608 ((128 + lead % 128) * 2 ^ (lead / 128) + 128) 32769 (omega arith) (omega arith) in
    omega arith
