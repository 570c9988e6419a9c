-- A cursor as a list of words that a position cuts in two. Each call is a step from one state to another.
use Rattle.std.specs.Prelude.{◌≡◌, ℕ, List, [], ◌∷◌, ◌++◌, take, drop, reverse, Option, Result, MatchResult, MatchOption}

-- the words before the position, and those from the position on
pub record State (W : Type 0) : Type 0 where
  pub before : List W
  pub after : List W

abbrev pub state : {W : Type 0} → List W → ℕ → State W
state words pos = record { before = take pos words; after = drop pos words }

-- the same words backwards, cut at the same place
abbrev pub reversal : {W : Type 0} → State W → State W
reversal s = record { before = reverse s.after; after = reverse s.before }

-- A stack read answers the last word before the position and moves the position back over it.
-- If there is no such word, it answers None and nothing changes.
abbrev pub StackReads : {W E : Type 0} → State W → Result (Option W) E → State W → Type 0
StackReads s r t =
    MatchResult r
    (λ o. MatchOption o ((s.before ≡ []) × (t ≡ s))
    (λ w. (s.before ≡ t.before ++ w ∷ []) × (t.after ≡ w ∷ s.after)))
    (λ _. ⊥)

-- A queue read answers the word at the position and moves the position forward over it.
-- If there is no such word, it answers None and nothing changes.
abbrev pub QueueReads : {W E : Type 0} → State W → Result (Option W) E → State W → Type 0
QueueReads s r t =
    MatchResult r
    (λ o. MatchOption o ((s.after ≡ []) × (t ≡ s))
    (λ w. (s.after ≡ w ∷ t.after) × (t.before ≡ s.before ++ w ∷ [])))
    (λ _. ⊥)

-- A write replaces the word at the position and moves the position forward over it.
-- If there is no such word, the write is refused and nothing changes.
abbrev pub Overwrites : {W E : Type 0} → State W → W → Result (Unit {0}) E → State W → Type 0
Overwrites {W} s w r t =
    MatchResult r
    (λ _. (t.before ≡ s.before ++ w ∷ []) × ((x : W) × (s.after ≡ x ∷ t.after)))
    (λ _. (s.after ≡ []) × (t ≡ s))
