-- How many symbols a dividing model has. No public clause cites this module.
use Rattle.std.specs.Prelude.{◌≡◌, ℕ, ◌^◌, ◌≤◌, List, Option, MatchOption}
use Rattle.constriction_model.specs.Rows.{Row, uniform_rows}

-- the number of symbols of the dividing model with these rows, if there is one
abbrev pub IsRangeOf : ℕ → List (Row ℕ) → Option ℕ → Type 0
IsRangeOf precision rows range =
    MatchOption range ((n : ℕ) → 2 ≤ n → ¬ (rows ≡ uniform_rows precision n))
    (λ n. (2 ≤ n) × (n ≤ 2 ^ precision) × (rows ≡ uniform_rows precision n))
