-- The words of an encoder as a source.
use Rattle.std.specs.Prelude.{◌≡◌, ℕ, List, [], ◌∷◌, Option, Result, MatchResult, MatchOption}

-- a read answers the first word and drops it, or answers None if there is none; it never fails
abbrev pub TakesFirst : {E : Type 0} → List ℕ → Result (Option ℕ) E → List ℕ → Type 0
TakesFirst old r new = MatchResult r (λ o. MatchOption o ((old ≡ []) × (new ≡ [])) (λ word. old ≡ word ∷ new)) (λ _. ⊥)
