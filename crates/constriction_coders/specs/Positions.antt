-- Places of a coder: a state, and how many words are under it.
use Rattle.std.specs.Prelude.{◌≡◌, ℕ, ◌^◌, ◌<◌, ◌≤◌, ◌⊎◌, List, ◌++◌, length, take, Option, Result, MatchResult, IsOk}
use Rattle.constriction_model.specs.Coding.{InTurn}
use Rattle.constriction_coders.specs.Steps.{Content, content, MayBeHeld, IsEncoded}

-- A seek to a place, if these words are there: then as many of them as the place says are under its state. The seek is refused if there are
-- fewer, or if words would be under a state below 2 ^ 32, and then nothing changes.
abbrev pub SeeksPlace : List ℕ → Content → ℕ × ℕ → Result (Unit {0}) (Unit {0}) → Content → Type 0
SeeksPlace there old place r new =
    MatchResult r
    (λ _. (place.0 ≤ length there) × (new ≡ content place.1 (take place.0 there)))
    (λ _. ((length there < place.0) ⊎ ((0 < place.0) × (place.1 < 2 ^ 32))) × (new ≡ old))

-- Symbols were encoded since a place was noted. If the words from then are still there, a seek to the place succeeds, and the coder holds
-- what it held then.
abbrev pub PlaceComesBack : {Symbol : Type 0} → (Symbol → Option (ℕ × ℕ)) → ℕ → Type 0
PlaceComesBack {Symbol} entry precision =
    (symbols : List Symbol) (noted full old new : Content) (more there : List ℕ) (r : Result (Unit {0}) (Unit {0})) → MayBeHeld noted
    → InTurn (λ s. IsEncoded (entry s) precision) symbols full noted → there ≡ full.words ++ more
    → SeeksPlace there old (length noted.words, noted.state) r new → IsOk r × (new ≡ noted)
