-- Stored weights, and how they are read from a source and written to a sink.
use Rattle.std.specs.Prelude.{◌≡◌, ℕ, ◌^◌, ◌<◌, ◌≤◌, Bool, List, [], ◌∷◌, ◌++◌, length, Option, None, Result, Ok, Err}
use Rattle.constriction.specs.Acceptance.{AreAccepted}
use Rattle.constriction.specs.declared.CoderError.{CoderError}
use Rattle.constriction.specs.declared.CoderError.TheVariants.{Frontend, Backend}
use Rattle.constriction.specs.Rows.{Row, rows_of}
use Rattle.constriction_backends.specs.Sink.{StopsAtWord, Writes}
use Rattle.constriction_backends.specs.Source.{Reads}
use Rattle.constriction_stored_weights.specs.declared.errors.ReadingError.{ReadingError}
use Rattle.constriction_stored_weights.specs.declared.errors.ReadingError.TheVariants as reading
use Rattle.constriction_stored_weights.specs.declared.errors.StoringError.{StoringError}
use Rattle.constriction_stored_weights.specs.declared.errors.StoringError.TheVariants as storing

-- weights as words: how many there are, and then the weights
abbrev pub weights_as_words : List ℕ → List ℕ
weights_as_words weights = length weights ∷ weights

-- words that begin stored weights and do not end them
abbrev pub BeginsWeights : List ℕ → Type 0
BeginsWeights [] = Unit {0}
BeginsWeights (count ∷ weights) = length weights < count

-- words that begin stored weights, or are all of them
abbrev pub StaysInWeights : List ℕ → Type 0
StaysInWeights [] = Unit {0}
StaysInWeights (count ∷ weights) = length weights ≤ count

module _ {S E : Type 0} (gives : S → Result (Option ℕ) E → S → Type 0) where
  -- reads from s gave the beginning of stored weights, and then one more gave this answer, which leads to t
  pub record EndsInWeights (s : S) (answer : Result (Option ℕ) E) (t : S) : Type 0 where
    pub words : List ℕ
    pub begins : BeginsWeights words
    pub reached : S
    pub read : Reads gives s words reached
    pub answered : gives reached answer t

  module _ (tells : S → List ℕ → Type 0) where
    -- Reads from s gave the words of the weights, which leads to t. If s tells its upcoming words, they begin with these, and t tells the
    -- rest.
    pub record ReadsWeights (s : S) (weights : List ℕ) (t : S) : Type 0 where
      pub read : Reads gives s (weights_as_words weights) t
      pub known : (words : List ℕ) → tells s words → (rest : List ℕ) × (words ≡ weights_as_words weights ++ rest) × tells t rest

    -- weights were read that a model accepts for these symbols, and the rows are those of both
    pub record ReadsModel {Symbol : Type 0} (eq : Symbol → Symbol → Bool) (precision : ℕ) (symbols : List Symbol) (s : S)
        (rows : List (Row Symbol)) (t : S) : Type 0 where
      pub weights : List ℕ
      pub reads : ReadsWeights s weights t
      pub accepted : AreAccepted eq 32 precision symbols weights
      pub rows_are : rows ≡ rows_of symbols weights

    -- this is why no weights were read from s, which led to t
    abbrev pub StopsReadingWeights : (IsRefused : List ℕ → Type 0) → S → CoderError ReadingError E → S → Type 0
    StopsReadingWeights IsRefused s (Frontend reading.TooFewWords) t =
        EndsInWeights s (Ok None) t × ((words : List ℕ) → tells s words → BeginsWeights words)
    StopsReadingWeights IsRefused s (Frontend reading.NotAccepted) t = (weights : List ℕ) × ReadsWeights s weights t × IsRefused weights
    StopsReadingWeights IsRefused s (Frontend reading.OutOfMemory) t =
        (words : List ℕ) × StaysInWeights words × Reads gives s words t
    StopsReadingWeights IsRefused s (Backend error) t = EndsInWeights s (Err error) t

module _ {S E : Type 0} (gives : S → ℕ → Result (Unit {0}) E → S → Type 0) where
  -- the words of the weights were written to s, which leads to t; if s tells the words that were written to it, t tells these after them
  pub record WritesWeights (tells : S → List ℕ → Type 0) (s : S) (weights : List ℕ) (t : S) : Type 0 where
    pub written : Writes gives s (weights_as_words weights) t
    pub known : (words : List ℕ) → tells s words → tells t (words ++ weights_as_words weights)

  -- this is why weights were not written to s, which led to t
  abbrev pub StopsWritingWeights : S → (weights : List ℕ) → CoderError StoringError E → S → Type 0
  StopsWritingWeights s weights (Frontend storing.TooManyWeights) t = (2 ^ 32 ≤ length weights) × (t ≡ s)
  StopsWritingWeights s weights (Frontend storing.OutOfMemory) t = t ≡ s
  StopsWritingWeights s weights (Backend error) t = StopsAtWord gives s (weights_as_words weights) error t
