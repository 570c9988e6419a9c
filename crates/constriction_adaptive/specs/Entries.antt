-- Entries of symbols in their places, kept until they are encoded.
use Rattle.std.specs.Prelude.{◌≡◌, ℕ, ◌+◌, ◌^◌, ◌<◌, ◌≤◌, Option, Some}

-- the left cumulative and the weight of what is coded in a place
pub record IsEntryAt {Place : Type 0} (precision : ℕ) (entry : Place → Option (ℕ × ℕ)) (place : Place) (found : ℕ × ℕ) : Type 0 where
  pub known : entry place ≡ Some found
  pub some : 0 < found.1
  pub within : found.0 + found.1 ≤ 2 ^ precision
