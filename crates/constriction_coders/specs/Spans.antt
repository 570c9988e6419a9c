-- What a range encoder holds, what a symbol does to it, and the words of a message.
use Rattle.std.specs.Prelude.{◌≡◌, ◌≢◌, ℕ, ◌+◌, ◌-◌, ◌*◌, ◌^◌, ◌<◌, ◌≤◌, ◌⊎◌, List, [], All, length, Option, Some, None}
use Rattle.constriction_model.specs.Coding.{InTurn}
use Rattle.constriction_words.specs.declared.CoderError.{CoderError}
use Rattle.constriction_words.specs.declared.CoderError.TheVariants.{Frontend, Backend}
use Rattle.constriction_coders.specs.Intervals.{unit_of}
use Rattle.constriction_coders.specs.Numbers.{number_first, number_of}

-- The numbers that a message may be sent as: `size` numbers from `low` on, each of `written + 2` words.
pub record Span : Type 0 where
  pub low : ℕ
  pub size : ℕ
  pub written : ℕ

-- the same, from its parts
abbrev pub span : (low size written : ℕ) → Span
span l s w = record { low = l; size = s; written = w }

-- the span of the message with no symbol
abbrev pub whole : Span
whole = span 0 (2 ^ 64 - 1) 0

-- the span of an encoder: `lower` has the lower two words of the least number, and the words have the others
abbrev pub span_of : (words : List ℕ) (lower range : ℕ) → Span
span_of words lower range = span (number_of words * 2 ^ 64 + lower) range (length words)

-- the numbers of the span that belong to the quantiles of an entry
abbrev pub part_in : (precision left weight : ℕ) → Span → Span
part_in precision left weight s = span (s.low + unit_of precision s.size * left) (unit_of precision s.size * weight) s.written

-- a span of fewer than 2 ^ 32 numbers gets one word more
abbrev pub IsWidened : Span → Span → Type 0
IsWidened s new =
    ((2 ^ 32 ≤ s.size) × (new ≡ s))
    ⊎ ((s.size < 2 ^ 32) × (new ≡ span (s.low * 2 ^ 32) (s.size * 2 ^ 32) (s.written + 1)))

-- a symbol of this entry leaves the part of it, with a word more if that is small
pub record IsNarrowed (entry : Option (ℕ × ℕ)) (precision : ℕ) (old new : Span) : Type 0 where
  pub left : ℕ
  pub weight : ℕ
  pub known : entry ≡ Some (left, weight)
  pub within : left + weight ≤ 2 ^ precision
  pub next : IsWidened (part_in precision left weight old) new

-- what holds of each span of a message
pub record IsReached (s : Span) : Type 0 where
  pub wide : 2 ^ 32 ≤ s.size
  pub fits : s.size < 2 ^ 64
  pub within : s.low + s.size < 2 ^ (32 * (s.written + 2))
  pub begun : s.size ≡ 2 ^ 64 - 1 → s ≡ whole

-- this is why a symbol of this entry was not encoded
abbrev pub IsNarrowingFault : {Fault E : Type 0} → Option (ℕ × ℕ) → (precision : ℕ) → CoderError Fault E → Span → Type 0
IsNarrowingFault entry precision (Frontend fault) s = entry ≡ None
IsNarrowingFault entry precision (Backend error) s =
    (left weight : ℕ) × (entry ≡ Some (left, weight)) × (unit_of precision s.size * weight < 2 ^ 32)

-- the first words, as many as a number of the span has, are a number of the span
abbrev pub LiesIn : Span → List ℕ → Type 0
LiesIn s words = (s.low ≤ number_first (s.written + 2) words) × (number_first (s.written + 2) words < s.low + s.size)

-- The words lead to the span: their number is in it. Any words lead to the span of no symbol.
pub record LeadTo (s : Span) (words : List ℕ) : Type 0 where
  pub fit : All (λ w. w < 2 ^ 32) words
  pub lies : s ≢ whole → LiesIn s words

-- `point` is the least number that is in the span with a word of 0 after it. It is written without that word if all numbers that begin with
-- it are in the span, and otherwise with it.
pub record IsPointOf (s : Span) (words : List ℕ) : Type 0 where
  pub fit : All (λ w. w < 2 ^ 32) words
  pub point : ℕ
  pub from : s.low ≤ point * 2 ^ 32
  pub to : point * 2 ^ 32 < s.low + s.size
  pub least : point * 2 ^ 32 < s.low + 2 ^ 32
  pub is : (((point + 1) * 2 ^ 32 ≤ s.low + s.size) × (number_of words ≡ point) × (length words ≡ s.written + 1))
      ⊎ ((s.low + s.size < (point + 1) * 2 ^ 32) × (number_of words ≡ point * 2 ^ 32) × (length words ≡ s.written + 2))

-- these are the words of a message whose last span is s: none if it has no symbol
abbrev pub IsSealed : Span → List ℕ → Type 0
IsSealed s words = ((s ≡ whole) × (words ≡ [])) ⊎ ((s ≢ whole) × IsPointOf s words)

-- these are the words of these symbols
abbrev pub IsMessageOf : {Symbol : Type 0} → (Symbol → Option (ℕ × ℕ)) → (precision : ℕ) → List Symbol → List ℕ → Type 0
IsMessageOf entry precision symbols words =
    (last : Span) × InTurn (λ s. IsNarrowed (entry s) precision) symbols whole last × IsSealed last words
