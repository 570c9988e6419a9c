-- Sources over iterators: which item a read gives, and whether the items are counted. `steps s o t` says that the iterator s may give o
-- and become t.
use Rattle.std.specs.Prelude.{◌≡◌, ℕ, suc, zero, List, length, Option, Some, None, Result, Ok, Err, All, MatchResult}
use Rattle.constriction_sources.specs.Source.{GivesAnswers}

-- the item that a read answered: an error stands in the place of a word
abbrev pub item_of : {W E : Type 0} → Result (Option W) E → Option (Result W E)
item_of (Ok None) = None
item_of (Ok (Some w)) = Some (Ok w)
item_of (Err e) = Some (Err e)

-- a read of an iterator of words answers what the iterator gives, and no error
abbrev pub GivesWord : {S W E : Type 0} → (S → Option W → S → Type 0) → S → Result (Option W) E → S → Type 0
GivesWord steps s r t = MatchResult r (λ o. steps s o t) (λ _. ⊥)

module _ {S A W : Type 0} (steps : S → Option A → S → Type 0) (left : S → ℕ) (tells : S → List W → Type 0) where
  -- n items are left, and each list of words that is told has n words
  abbrev pub IsCount : ℕ → S → Type 0
  IsCount n s = (left s ≡ n) × ((words : List W) → tells s words → n ≡ length words)

  -- the iterator gives exactly n items, whichever they are, and the count of items left is right at each step
  abbrev pub CountsDown : ℕ → S → Type 0
  CountsDown zero s = IsCount zero s × ((x : A) (t : S) → ¬ (steps s (Some x) t))
  CountsDown (suc n) s =
      IsCount (suc n) s × ((t : S) → ¬ (steps s None t)) × ((x : A) (t : S) → steps s (Some x) t → CountsDown n t)

-- once a read has answered that there are no more words, each later read does
abbrev pub EndIsForGood : {S W E : Type 0} → (S → Result (Option W) E → S → Type 0) → Type 0
EndIsForGood {S} {W} {E} gives =
    (s t u : S) (later : List (Result (Option W) E)) → gives s (Ok None) t → GivesAnswers gives t later u
    → All (λ r. r ≡ Ok None) later
