-- What was encoded is decoded, and what was decoded is encoded again.
use Rattle.std.specs.Prelude.{◌≡◌, ◌≢◌, ℕ, List, [], ◌∷◌, ◌++◌, length, Bool, IsTrue, Option, None}
use Rattle.std.specs.List.{AllZip, IsDistinct}
use Rattle.constriction_model.specs.Coding.{StandsForEqual, InTurn}
use Rattle.constriction_model.specs.Entries.{SameEntries}
use Rattle.constriction_model.specs.Model.{ClonesAreEqual}
use Rattle.constriction_model.specs.Rows.{Row, symbols_of}
use Rattle.constriction_coders.specs.Compressed.{IsCompressed}
use Rattle.constriction_coders.specs.Places.{entry_by}
use Rattle.constriction_coders.specs.StackMessages.{IsStackOf}
use Rattle.constriction_coders.specs.Steps.{Content, content, MayBeHeld, IsEncoded, IsDecoded}

-- symbols were encoded onto `old`, the last one first, and P holds of the content that this led to
abbrev pub EncodesThen : {Symbol : Type 0} → (Symbol → Option (ℕ × ℕ)) → ℕ → List Symbol → Content → (Content → Type 0) → Type 0
EncodesThen entry precision symbols old P = (full : Content) × InTurn (λ s. IsEncoded (entry s) precision) symbols full old × P full

-- Symbols are coded in their places, which have the entries and say how to decode. By one model, a symbol is its own place.
pub record StackComesBack {Symbol Place : Type 0} (places : List Symbol → List Place) (entry : Place → Option (ℕ × ℕ)) (precision : ℕ)
    (Decodes : Place → Content → Content → Type 0) (Back : Symbol → Symbol → Type 0) : Type 0 where
  -- as many symbols come back as were encoded, and what was under them is left
  pub symbols : (symbols answers : List Symbol) (full rest under : Content)
      → InTurn (λ s. IsEncoded (entry s) precision) (places symbols) full rest → InTurn Decodes (places answers) full under
      → length answers ≡ length symbols → AllZip Back symbols answers × (under ≡ rest)
  -- the same from their words: then nothing is left
  pub words : (symbols answers : List Symbol) (words : List ℕ) (opened left : Content) → IsStackOf entry precision (places symbols) words
      → IsCompressed opened words → InTurn Decodes (places answers) opened left → length answers ≡ length symbols
      → AllZip Back symbols answers × (left ≡ content 0 [])

-- Each symbol is coded by a model of its own, and place by place the models that encode and decode have the same entries.
module _ {Symbol Model Other : Type 0} (eq : Symbol → Symbol → Bool) (rows : Model → List (Row Symbol)) (Stands : Symbol → Symbol → Type 0)
    (other_rows : Other → List (Row Symbol)) where
  -- in either list the models of a place have the same entries
  abbrev pub HaveSameEntries : List (Symbol × Model) → List (Symbol × Other) → Type 0
  HaveSameEntries = AllZip (λ pair other. SameEntries eq (rows pair.1) (other_rows other.1))

  -- what was decoded stands for symbols equal to those that were encoded
  abbrev pub StandForPairs : List (Symbol × Model) → List (Symbol × Other) → Type 0
  StandForPairs = AllZip (λ pair other. StandsForEqual Stands eq pair.0 other.0)

  -- what is encoded by the first models of pairs comes back by the second ones
  pub record PairsComeBack (precision : ℕ) : Type 0 where
    -- as many symbols come back as were encoded, and what was under them is left
    pub symbols : (pairs : List (Symbol × Model)) (others : List (Symbol × Other)) (full rest under : Content)
        → InTurn (λ s. IsEncoded (entry_by eq rows s) precision) pairs full rest
        → InTurn (λ other. IsDecoded Stands (other_rows other.1) precision other.0) others full under → HaveSameEntries pairs others
        → StandForPairs pairs others × (under ≡ rest)
    -- the same from their words: then nothing is left
    pub words : (pairs : List (Symbol × Model)) (others : List (Symbol × Other)) (words : List ℕ) (opened left : Content)
        → IsStackOf (entry_by eq rows) precision pairs words → IsCompressed opened words
        → InTurn (λ other. IsDecoded Stands (other_rows other.1) precision other.0) others opened left → HaveSameEntries pairs others
        → StandForPairs pairs others × (left ≡ content 0 [])

module _ {Symbol : Type 0} (entry : Symbol → Option (ℕ × ℕ)) (precision : ℕ) where
  -- what follows for symbols that are encoded by these entries
  pub record EncodedOnce : Type 0 where
    -- a symbol is encoded onto a content in one way, if a coder may hold the result
    pub symbol : (symbol : Symbol) (a b rest : Content) → MayBeHeld a → MayBeHeld b → IsEncoded (entry symbol) precision a rest
        → IsEncoded (entry symbol) precision b rest → a ≡ b
    -- symbols have one list of words
    pub words : (symbols : List Symbol) (words others : List ℕ) → IsStackOf entry precision symbols words
        → IsStackOf entry precision symbols others → words ≡ others
    -- it does not end in 0
    pub end : (symbols : List Symbol) (words others : List ℕ) → IsStackOf entry precision symbols words → words ≢ others ++ 0 ∷ []

  module _ (Stands : Symbol → Symbol → Type 0) (rows : List (Row Symbol)) where
    -- what follows for symbols that are then decoded by these rows, if these have the same entries
    pub record SymbolsComeBack (eq : Symbol → Symbol → Bool) : Type 0 where
      -- what is decoded after a symbol was encoded stands for an equal one, and what was under it is left
      pub symbol : (symbol answer : Symbol) (full rest under : Content) → IsEncoded (entry symbol) precision full rest
          → IsDecoded Stands rows precision answer full under → StandsForEqual Stands eq symbol answer × (under ≡ rest)
      pub all : StackComesBack (λ ss. ss) entry precision (IsDecoded Stands rows precision) (StandsForEqual Stands eq)
      -- two lists of as many symbols with the same words have equal symbols
      pub one : (symbols others : List Symbol) (words : List ℕ) → IsStackOf entry precision symbols words
          → IsStackOf entry precision others words → length symbols ≡ length others → AllZip (λ s t. IsTrue (eq s t)) symbols others

    -- what follows for symbols that are decoded by these rows and then encoded, if the rows are also invertible
    pub record DecodedGoesBack : Type 0 where
      -- a symbol that was decoded has an entry
      pub known : (symbol : Symbol) (full rest : Content) → IsDecoded Stands rows precision symbol full rest → entry symbol ≢ None
      -- if it is encoded again, the content is the one that it was decoded from
      pub back : (symbol : Symbol) (full rest again : Content) → MayBeHeld full → MayBeHeld again
          → IsDecoded Stands rows precision symbol full rest → IsEncoded (entry symbol) precision again rest → again ≡ full
      -- words from which symbols are decoded until nothing is left are the words of these symbols
      pub words : (symbols : List Symbol) (words : List ℕ) (opened : Content) → IsCompressed opened words
          → InTurn (IsDecoded Stands rows precision) symbols opened (content 0 []) → IsStackOf entry precision symbols words

-- no two symbols of these rows are equal, and what stands for a symbol is equal to it; so it has the entry of its row
pub record IsInvertible {Symbol : Type 0} (eq : Symbol → Symbol → Bool) (Stands : Symbol → Symbol → Type 0) (rows : List (Row Symbol))
    : Type 0 where
  pub distinct : IsDistinct eq (symbols_of rows)
  pub clones : ClonesAreEqual eq Stands
