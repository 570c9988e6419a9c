-- Going back in a list whose position is its end.
use Rattle.std.specs.Prelude.{◌≡◌, ◌<◌, ◌≤◌, ℕ, List, length, take, Result, MatchResult}

-- a seek to position p keeps the first p words, and is refused if there are fewer than p
abbrev pub Rewinds : {W : Type 0} → List W → ℕ → Result (Unit {0}) (Unit {0}) → List W → Type 0
Rewinds old p r new = MatchResult r (λ _. (p ≤ length old) × (new ≡ take p old)) (λ _. (length old < p) × (new ≡ old))

-- a seek goes back in words that are held in memory, and keeps the capacity: the number of words that fit without further memory, which
-- is at least `least`
pub record RewindsIn {S W : Type 0} (words : S → List W) (capacity : S → ℕ) (least : ℕ)
    (old : S) (p : ℕ) (r : Result (Unit {0}) (Unit {0})) (new : S) : Type 0 where
  pub rewinds : Rewinds (words old) p r (words new)
  pub keeps : capacity new ≡ capacity old
  pub at_least : least ≤ capacity old
