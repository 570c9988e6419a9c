-- Weights in proportion to counts.
use Rattle.std.specs.Prelude.{◌≡◌, ℕ, ◌+◌, ◌-◌, ◌*◌, ◌/◌, ◌^◌, List, length, take, sum, nat_lt, count_by}

-- how many symbols occur: how many counts are not 0
abbrev pub occurring : List ℕ → ℕ
occurring counts = count_by (λ count. nat_lt 0 count) counts

-- These are weights over 2 ^ precision for these counts. The weights before each place add up to the number of symbols there that occur,
-- plus their share, rounded down, of the quantiles that are left when each symbol that occurs has one.
pub record AreWeightsOf (precision : ℕ) (counts weights : List ℕ) : Type 0 where
  pub as_many : length weights ≡ length counts
  pub before : (place : ℕ) → sum (take place weights)
      ≡ occurring (take place counts) + sum (take place counts) * (2 ^ precision - occurring counts) / sum counts
