-- A list as a stack, whose top is its end.
use Rattle.std.specs.Prelude.{◌≡◌, ◌≢◌, ◌<◌, ◌≤◌, ℕ, List, [], ◌∷◌, ◌++◌, length, Option, Some, Result, Ok}
use Rattle.std.specs.Prelude.{MatchResult, MatchOption, IsOk, OnErr}

-- a read answers the last word and drops it, or None on the empty list, and no error
abbrev pub Pops : {W E : Type 0} → List W → Result (Option W) E → List W → Type 0
Pops old r new = MatchResult r (λ o. MatchOption o ((old ≡ []) × (new ≡ [])) (λ w. old ≡ new ++ w ∷ [])) (λ _. ⊥)

-- a read answers the last word and drops it, or None on the empty list; or it fails on a list that is not empty, and leaves the list
abbrev pub PopsOrFails : {W E : Type 0} → List W → Result (Option W) E → List W → Type 0
PopsOrFails old r new =
    MatchResult r
    (λ o. MatchOption o ((old ≡ []) × (new ≡ [])) (λ w. old ≡ new ++ w ∷ []))
    (λ _. (old ≢ []) × (new ≡ old))

-- a write puts the word at the end, or is refused and leaves the list
abbrev pub Pushes : {W E : Type 0} → List W → W → Result (Unit {0}) E → List W → Type 0
Pushes old w r new = MatchResult r (λ _. new ≡ old ++ w ∷ []) (λ _. new ≡ old)

-- a read pops a word and keeps the capacity, which is at least `least`
pub record PopsFrom {S W E : Type 0} (words : S → List W) (capacity : S → ℕ) (least : ℕ)
    (old : S) (r : Result (Option W) E) (new : S) : Type 0 where
  pub pops : Pops (words old) r (words new)
  pub keeps : capacity new ≡ capacity old
  pub at_least : least ≤ capacity old

-- A write pushes the word. With capacity left it succeeds and keeps the capacity. It is refused only with no capacity left, and keeps the
-- capacity then too. The capacity never falls, and is at least `least`.
pub record PushesTo {S W E : Type 0} (words : S → List W) (capacity : S → ℕ) (least : ℕ)
    (old : S) (w : W) (r : Result (Unit {0}) E) (new : S) : Type 0 where
  pub pushes : Pushes (words old) w r (words new)
  pub succeeds : length (words old) < capacity old → IsOk r
  pub keeps : length (words old) < capacity old → capacity new ≡ capacity old
  pub refused : OnErr r ((capacity old ≤ length (words old)) × (capacity new ≡ capacity old))
  pub grows : capacity old ≤ capacity new
  pub at_least : least ≤ capacity old

-- A stack with these writes, reads and words reads back what was written to it.
pub record ReadsWhatWasWritten {S W R E : Type 0} (writes : S → W → Result (Unit {0}) E → S → Type 0)
    (reads : S → Result (Option W) R → S → Type 0) (words_of : S → List W) : Type 0 where
  -- a write that succeeds puts its word after the others
  pub written : (old new : S) (w : W) → writes old w (Ok tt) new → words_of new ≡ words_of old ++ w ∷ []
  -- In any state with this word after others, a read answers the word and leaves the others, or fails and leaves all.
  pub read : (later new : S) (w : W) (r : Result (Option W) R) (words : List W) → words_of later ≡ words ++ w ∷ [] → reads later r new
      → MatchResult r (λ o. (o ≡ Some w) × (words_of new ≡ words)) (λ _. words_of new ≡ words ++ w ∷ [])
