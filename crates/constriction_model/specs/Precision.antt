-- The precisions of models over words.
use Rattle.std.specs.Prelude.{ℕ, ◌<◌, ◌≤◌}

-- a precision is at least 1, and at most the bits of a word
pub record IsPrecision (bits precision : ℕ) : Type 0 where
  pub positive : 0 < precision
  pub fits : precision ≤ bits

-- the precision of a lookup model is also at most 63, so the number of its table's slots is an index
abbrev pub IsLookupPrecision : (bits precision : ℕ) → Type 0
IsLookupPrecision bits precision = IsPrecision bits precision × (precision ≤ 63)
