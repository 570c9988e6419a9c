-- Places of a range coder: how many words were written, and of the span the lower two words of its least number, and its size.
use Rattle.std.specs.Prelude.{◌≡◌, ℕ, ◌+◌, ◌-◌, ◌%◌, ◌^◌, ◌<◌, ◌≤◌, ◌⊎◌, List, ◌++◌, All, length, drop, Option, Result, MatchResult, IsOk}
use Rattle.constriction_model.specs.Coding.{InTurn}
use Rattle.constriction_coders.specs.Intervals.{Held, interval}
use Rattle.constriction_coders.specs.Numbers.{number_first}
use Rattle.constriction_coders.specs.RangeLaws.{IsAt}
use Rattle.constriction_coders.specs.Spans.{Span, IsNarrowed, IsReached, IsSealed}
use Rattle.constriction_coders.specs.declared.queue.positions.RangeCoderState.{RangeCoderState}

-- the state of these
abbrev pub coder_state : (lower range : ℕ) → RangeCoderState
coder_state l r = record { lower = l; range = r }

-- the place of an encoder that holds this span
abbrev pub place_of : Span → ℕ × RangeCoderState
place_of s = (s.written, coder_state (s.low % 2 ^ 64) s.size)

-- how far the number of the words up to a place, and of two more, lies above the lower end there, modulo 2 ^ 64
abbrev pub distance_at : ℕ × RangeCoderState → List ℕ → ℕ
distance_at place words = (number_first (place.0 + 2) words + (2 ^ 64 - place.1.lower)) % 2 ^ 64

-- a decoder of these words may stand at the place
pub record IsPlaceIn (words : List ℕ) (place : ℕ × RangeCoderState) : Type 0 where
  pub there : place.0 ≤ length words
  pub wide : 2 ^ 32 ≤ place.1.range
  pub inside : distance_at place words ≤ place.1.range

-- A seek of a decoder to a place, where these are all words: it holds as many numbers as were noted, with the point so far above the lower
-- end, and the words after the two are still to come. It is refused if no decoder may stand there, and then nothing changes.
abbrev pub SeeksSpan : {S : Type 0} → (S → List ℕ → Type 0) → List ℕ → Held S → ℕ × RangeCoderState → Result (Unit {0}) (Unit {0}) → Held S
    → Type 0
SeeksSpan tells words old place r new =
    MatchResult r
    (λ _. IsPlaceIn words place × (new.held ≡ interval place.1.range (distance_at place words))
    × tells new.source (drop (place.0 + 2) words))
    (λ _. ((length words < place.0) ⊎ (place.1.range < 2 ^ 32) ⊎ (place.1.range < distance_at place words)) × (new ≡ old))

-- A place was noted, and symbols were encoded from there to the last span of a message. Over its words, whatever words come after them, a
-- seek to the place succeeds, and the decoder is at the span that was noted.
abbrev pub RangePlaceComesBack : {Symbol S : Type 0} → (Symbol → Option (ℕ × ℕ)) → ℕ → (S → List ℕ → Type 0) → Type 0
RangePlaceComesBack {Symbol} {S} entry precision tells =
    (symbols : List Symbol) (noted last : Span) (words more there : List ℕ) (old new : Held S) (r : Result (Unit {0}) (Unit {0}))
    → IsReached noted → InTurn (λ s. IsNarrowed (entry s) precision) symbols noted last → IsSealed last words → All (λ w. w < 2 ^ 32) more
    → there ≡ words ++ more → SeeksSpan tells there old (place_of noted) r new → IsOk r × IsAt tells noted there new
