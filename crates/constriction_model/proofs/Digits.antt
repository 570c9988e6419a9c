-- The number of binary digits.
use Rattle.std.proofs.Common.{◌≡◌, ℕ, suc, zero, ◌+◌, ◌-◌, ◌/◌, ◌^◌, ◌<◌, ◌≤◌, ap, sym, refl, ◌∙◌, arith}
use Rattle.std.proofs.lemmas.Nat.{pow_pos}
use Rattle.constriction_model.specs.Probe.{digits, digits_in}

digits_in-zero : (f : ℕ) → digits_in f 0 ≡ 0
digits_in-zero zero = refl
digits_in-zero (suc f) = refl

-- all bounds that are large enough give the same number
digits_in-same : (f g n : ℕ) → n ≤ f → n ≤ g → digits_in f n ≡ digits_in g n
digits_in-same f g zero p q = digits_in-zero f ∙ sym (digits_in-zero g)
digits_in-same zero g (suc n) p q = absurd (omega arith)
digits_in-same (suc f) zero (suc n) p q = absurd (omega arith)
digits_in-same (suc f) (suc g) (suc n) p q = ap (λ k. 1 + k) (digits_in-same f g (suc n / 2) (omega arith) (omega arith))

-- 0 has no binary digits
pub digits-zero : digits 0 ≡ 0
unfolding digits
digits-zero = refl

pub digits-half : (n : ℕ) → 0 < n → digits n ≡ 1 + digits (n / 2)
unfolding digits
digits-half zero h = absurd (omega arith)
digits-half (suc n) h = ap (λ k. 1 + k) (digits_in-same n (suc n / 2) (suc n / 2) (omega arith) (omega arith))

-- half of the rows, rounded up, leave one digit fewer
pub digits_step : (n : ℕ) → 1 < n → digits (n - 1) ≡ 1 + digits ((n - n / 2) - 1)
digits_step n h =
    let less : (n - 1) / 2 ≡ (n - n / 2) - 1 = omega arith in
    digits-half (n - 1) (omega arith) ∙ ap (λ k. 1 + digits k) less

-- a number up to 1 has that many digits
digits-small : (n : ℕ) → n ≤ 1 → digits n ≡ n
digits-small zero h = digits-zero
digits-small (suc n) h =
    let half : suc n / 2 ≡ 0 = omega (arith, h) in
    omega (arith, digits-half (suc n) (omega arith), ap digits half, digits-zero)

pub digits_most : (d n : ℕ) → n < 2 ^ d → digits n ≤ d
digits_most d zero h = omega (arith, digits-zero)
digits_most zero (suc n) h = absurd (omega arith)
digits_most (suc d) (suc n) h = omega (arith, digits-half (suc n) (omega arith), digits_most d (suc n / 2) (omega arith))

-- one less than a number below 2 ^ 64 has at most 64 digits
pub digits_word : (n : ℕ) → n < 2 ^ 64 → digits (n - 1) ≤ 64
digits_word n h = digits_most 64 (n - 1) (omega arith)

digits_in-more : (f m n : ℕ) → m ≤ n → digits_in f m ≤ digits_in f n
digits_in-more zero m n h = omega arith
digits_in-more (suc f) zero n h = omega arith
digits_in-more (suc f) (suc m) zero h = absurd (omega arith)
digits_in-more (suc f) (suc m) (suc n) h = omega (arith, digits_in-more f (suc m / 2) (suc n / 2) (omega arith))

-- a greater number has no fewer digits
pub digits_grow : (m n : ℕ) → m ≤ n → digits m ≤ digits n
unfolding digits
digits_grow m n h = omega (arith, digits_in-same m n m (omega arith) h, digits_in-more n m n h)

-- a number up to 2 has that many digits
pub digits_few : (n : ℕ) → n ≤ 2 → digits n ≡ n
digits_few zero h = digits-zero
digits_few (suc n) h =
    omega (arith, digits-half (suc n) (omega arith), digits-small (suc n / 2) (omega arith))

-- one less than a number up to 2 has that many digits
pub digits_two : (n : ℕ) → n ≤ 2 → digits (n - 1) ≡ n - 1
digits_two n h = digits_few (n - 1) (omega arith)

-- one less than a number above 2 ^ k, and at most twice that, has k + 1 digits
pub digits_between : (k n : ℕ) → 2 ^ k < n → n ≤ 2 ^ suc k → digits (n - 1) ≡ suc k
digits_between zero n more most =
    omega (arith, digits_step n (omega arith), digits_two (n - n / 2) (omega arith))
digits_between (suc k) n more most =
    omega (
      arith,
      pow_pos k,
      digits_step n (omega (arith, pow_pos k)),
      digits_between k (n - n / 2) (omega arith) (omega arith),
    )

-- one less than 2 ^ k has k digits
pub digits_ones : (k : ℕ) → digits (2 ^ k - 1) ≡ k
digits_ones zero = digits-zero
digits_ones (suc k) = digits_between k (2 ^ suc k) (omega (arith, pow_pos k)) (omega arith)

-- one less than a part of n rows has no more digits than one less than n
pub digits_some : (first m n : ℕ) → first + m ≤ n → digits (m - 1) ≤ digits (n - 1)
digits_some first m n h = digits_grow (m - 1) (n - 1) (omega arith)
