-- Differences modulo a number.
use Rattle.std.proofs.Common.{◌≡◌, ℕ, ◌+◌, ◌-◌, ◌%◌, ◌<◌, ◌⊎◌, ap, sym, ◌∙◌, arith, inl, inr}
use Rattle.std.proofs.Math.Nat.{mod-eq_of_lt, add-mod_left}
use Rattle.std.proofs.lemmas.Bool.{cases_lt}

-- the sum of two numbers below m, modulo m
sum-mod : (m a b : ℕ) → a < m → b < m → ((a + b) % m ≡ a + b) ⊎ ((a + b) % m + m ≡ a + b)
sum-mod m a b ha hb = elim (cases_lt (a + b) m) [
  | inl less ↦ inl (mod-eq_of_lt less)
  | inr more ↦
      let whole : m + (a + b - m) ≡ a + b = omega arith in
      let rest : (a + b) % m ≡ a + b - m = ap (λ n. n % m) (sym whole) ∙ add-mod_left m (a + b - m) ∙ mod-eq_of_lt (omega arith) in
      inr (omega arith)
]

-- a difference modulo m is the one number below m that gives the sum back
pub difference-mod : (m x y b : ℕ) → x < m → y < m → b < m → (x + b) % m ≡ (y + b) % m → x ≡ y
difference-mod m x y b hx hy hb e =
    elim (sum-mod m x b hx hb) [
      | inl one ↦ elim (sum-mod m y b hy hb) [ inl two ↦ omega arith | inr two ↦ omega arith ]
      | inr one ↦ elim (sum-mod m y b hy hb) [ inl two ↦ omega arith | inr two ↦ omega arith ]
    ]
