-- What was encoded by a range encoder is decoded: a symbol, whatever the models of the others, and symbols in their places.
use Rattle.std.specs.Prelude.{◌≡◌, ℕ, ◌+◌, ◌-◌, ◌<◌, ◌≤◌, ◌^◌, List, ◌++◌, All, Bool, Option, Result, length, take, drop}
use Rattle.std.specs.List.{AllZip}
use Rattle.constriction_model.specs.Coding.{StandsForEqual, InTurn}
use Rattle.constriction_model.specs.Rows.{Row}
use Rattle.constriction_coders.specs.Intervals.{Held, interval, IsRead, IsAboveAll, MayBeAtEnd}
use Rattle.constriction_coders.specs.Laws.{HaveSameEntries, StandForPairs}
use Rattle.constriction_coders.specs.Numbers.{number_first}
use Rattle.constriction_coders.specs.Places.{entry_by}
use Rattle.constriction_coders.specs.Spans.{Span, IsNarrowed, IsReached, LiesIn, LeadTo, IsSealed, IsMessageOf}

-- A decoder is at a span: it holds how many numbers that has, and how far the number of the words, as many as the span's numbers have,
-- lies above the least one. The words after these are still to come.
pub record IsAt {S : Type 0} (tells : S → List ℕ → Type 0) (s : Span) (words : List ℕ) (now : Held S) : Type 0 where
  pub held : now.held ≡ interval s.size (number_first (s.written + 2) words - s.low)
  pub known : tells now.source (drop (s.written + 2) words)

-- the words of a message lead to its last span, whatever words come after them
abbrev pub SealedWordsTell : Type 0
SealedWordsTell = (s : Span) (words more : List ℕ) → IsSealed s words → All (λ w. w < 2 ^ 32) more → LeadTo s (words ++ more)

-- symbols have one message
abbrev pub MessageOnce : {Symbol : Type 0} → (Symbol → Option (ℕ × ℕ)) → (precision : ℕ) → Type 0
MessageOnce {Symbol} entry precision =
    (symbols : List Symbol) (a b : List ℕ) → IsMessageOf entry precision symbols a → IsMessageOf entry precision symbols b → a ≡ b

-- symbols are coded in their places, as on a stack
module _ {Symbol Place S : Type 0} (places : List Symbol → List Place) (entry : Place → Option (ℕ × ℕ)) (precision : ℕ)
    (Reads : Place → Held S → Held S → Type 0) (tells : S → List ℕ → Type 0) where
  -- symbols were encoded from a span on, and a decoder of their words that was at this span decoded no more symbols than there are
  pub record IsDecodedFrom (first last : Span) (symbols answers : List Symbol) (words : List ℕ) (now : Held S) : Type 0 where
    pub reached : IsReached first
    pub encoded : InTurn (λ s. IsNarrowed (entry s) precision) (places symbols) first last
    pub message : LeadTo last words
    pub start : Held S
    pub begun : IsAt tells first words start
    pub decoded : InTurn Reads (places answers) start now
    pub as_many : length answers ≤ length symbols

  -- What was decoded is what comes back, and the decoder is at the span of as many symbols. If a symbol is left, the point is in its part:
  -- the words are never invalid. If none is left, and only other words follow the message, the decoder may be at the end.
  pub record FollowsEncoder (Back : Symbol → Symbol → Type 0) (first last : Span) (symbols answers : List Symbol) (words : List ℕ)
      (now : Held S) : Type 0 where
    pub back : AllZip Back (take (length answers) symbols) answers
    pub follows : (s : Span) × InTurn (λ s. IsNarrowed (entry s) precision) (places (take (length answers) symbols)) first s
        × IsAt tells s words now
    pub valid : length answers < length symbols → ¬ (IsAboveAll precision now.held)
    pub ends : (message more : List ℕ) → IsSealed last message → words ≡ message ++ more → length answers ≡ length symbols
        → MayBeAtEnd now.held

  -- symbols that were encoded come back, from any span of a message on
  abbrev pub RangeMessageComesBack : (Symbol → Symbol → Type 0) → Type 0
  RangeMessageComesBack Back =
      (first last : Span) (symbols answers : List Symbol) (words : List ℕ) (now : Held S)
      → IsDecodedFrom first last symbols answers words now → FollowsEncoder Back first last symbols answers words now

-- Symbols were encoded from a span on, each by a model of its own, and others after them. A decoder of their words that was at this span
-- decoded as many, by models that have the same entries place by place. They come back, and the decoder is at the span after them. If a
-- symbol is left, the words are not invalid.
abbrev pub RangePairsComeBack : {Symbol Model Other S E : Type 0} → (Symbol → Symbol → Bool) → (Model → List (Row Symbol))
    → (Symbol → Symbol → Type 0) → (Other → List (Row Symbol)) → (S → Result (Option ℕ) E → S → Type 0) → (S → List ℕ → Type 0)
    → (precision : ℕ) → Type 0
RangePairsComeBack {Symbol} {Model} {Other} {S} eq rows Stands other_rows gives tells precision =
    (pairs after : List (Symbol × Model)) (others : List (Symbol × Other)) (first mid last : Span) (words : List ℕ) (start now : Held S)
    → IsReached first → InTurn (λ s. IsNarrowed (entry_by eq rows s) precision) pairs first mid
    → InTurn (λ s. IsNarrowed (entry_by eq rows s) precision) after mid last → LeadTo last words → IsAt tells first words start
    → InTurn (λ other. IsRead Stands (other_rows other.1) gives precision other.0) others start now
    → HaveSameEntries eq rows Stands other_rows pairs others
    → StandForPairs eq rows Stands other_rows pairs others × IsAt tells mid words now
    × (0 < length after → ¬ (IsAboveAll precision now.held))

-- what follows for symbols that are encoded by these entries and decoded by these rows, if they have the same entries
pub record RangeSymbolsComeBack {Symbol S E : Type 0} (Stands : Symbol → Symbol → Type 0) (eq : Symbol → Symbol → Bool)
    (entry : Symbol → Option (ℕ × ℕ)) (rows : List (Row Symbol)) (gives : S → Result (Option ℕ) E → S → Type 0)
    (tells : S → List ℕ → Type 0) (precision : ℕ) : Type 0 where
  -- a number in the span after a symbol is in the span before it
  pub before : (symbol : Symbol) (old new : Span) (words : List ℕ) → All (λ w. w < 2 ^ 32) words
      → IsNarrowed (entry symbol) precision old new → LiesIn new words → LiesIn old words
  -- a symbol does not lead to the span of no symbol
  pub leaves : (symbol : Symbol) (old new : Span) → IsNarrowed (entry symbol) precision old new → old.size < 2 ^ 64 → new.size < 2 ^ 64 - 1
  -- If a decoder is at the span before a symbol, and the number of its words is in the span after it, what it decodes stands for the
  -- symbol, and then it is at the span after it.
  pub symbol : (symbol answer : Symbol) (old new : Span) (words : List ℕ) (now later : Held S) → All (λ w. w < 2 ^ 32) words
      → IsNarrowed (entry symbol) precision old new → LiesIn new words → IsAt tells old words now
      → IsRead Stands rows gives precision answer now later → StandsForEqual Stands eq symbol answer × IsAt tells new words later
  pub symbols : RangeMessageComesBack (λ ss. ss) entry precision (IsRead Stands rows gives precision) tells (StandsForEqual Stands eq)
