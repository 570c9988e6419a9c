-- Numbers as bits, the highest first, and the numbers that a range decoder reads from words. Bytes are numbers of 8 bits.
use Rattle.std.specs.Prelude.{◌≡◌, ◌<◌, ◌≤◌, ◌/◌, ◌%◌, ◌^◌, ℕ, zero, suc, List, [], ◌∷◌, ◌++◌, All, Bool, fold, nat_eq, Option, Result}
use Rattle.std.specs.Bool.{beq}
use Rattle.constriction_model.specs.Coding.{InTurn}
use Rattle.constriction_model.specs.Rows.{Row}
use Rattle.constriction_coders.specs.EncodedWords.{TakesFirst}
use Rattle.constriction_coders.specs.Intervals.{Held, IsStart}
use Rattle.constriction_coders.specs.Places.{placed}
use Rattle.constriction_words.specs.declared.CoderError.{CoderError}
use Rattle.constriction_words.specs.declared.CoderError.TheVariants.{Frontend, Backend}
use Rattle.constriction_adaptive.specs.Predicted.{FirstAreLearned, IsReadIn}
use Rattle.constriction_adaptive.specs.declared.error.EncoderFrontendError.{EncoderFrontendError}
use Rattle.constriction_adaptive.specs.declared.error.EncoderFrontendError.TheVariants as encoding

-- the lowest bits of a number, as many as its width, the highest of them first
unfoldable pub bits_of : (width number : ℕ) → List Bool
bits_of zero number = []
bits_of (suc width) number = nat_eq (number / 2 ^ width % 2) 1 ∷ bits_of width number

-- the bits of numbers of one width
abbrev pub all_bits : (width : ℕ) → List ℕ → List Bool
all_bits width [] = []
all_bits width (n ∷ ns) = bits_of width n ++ all_bits width ns

-- Numbers were not encoded. The first one of more bits than the width was reached, and those before it were learned; or memory was refused,
-- and some of the bits were learned, from the first one on.
abbrev pub NumberEncodingStops : {State E : Type 0} → (width : ℕ) → (State → Bool → State) → List ℕ → CoderError EncoderFrontendError E
    → State → State → Type 0
NumberEncodingStops width next numbers (Frontend encoding.ImpossibleSymbol) first last =
    (done : List ℕ) × (number : ℕ) × (after : List ℕ) × (numbers ≡ done ++ number ∷ after) × All (λ n. n < 2 ^ width) done
    × (2 ^ width ≤ number) × (last ≡ fold next first (all_bits width done))
NumberEncodingStops width next numbers (Frontend encoding.OutOfMemory) first last = FirstAreLearned next (all_bits width numbers) first last
NumberEncodingStops width next numbers (Backend error) first last = FirstAreLearned next (all_bits width numbers) first last

-- a read takes the first of these words and leaves the others; if there is none, it answers None
abbrev pub TakesWord : List ℕ → Result (Option ℕ) ⊥ → List ℕ → Type 0
TakesWord = TakesFirst

-- a bit is read from words by the rows of its state
abbrev pub IsBitRead : {State : Type 0} → (State → List (Row Bool)) → State × Bool → Held (List ℕ) → Held (List ℕ) → Type 0
IsBitRead rows = IsReadIn rows (λ s t. t ≡ s) beq 16 TakesWord

-- A range decoder of these words, which may have others after them, reads these numbers of one width: each bit by the rows of its state, of
-- which the first one is `first`. If no word is left, it reads 0.
pub record AreReadFrom {State : Type 0} (width : ℕ) (rows : State → List (Row Bool)) (next : State → Bool → State) (first : State)
    (numbers words : List ℕ) : Type 0 where
  pub small : All (λ n. n < 2 ^ width) numbers
  pub start : Held (List ℕ)
  pub begun : IsStart TakesWord words start.held start.source
  pub end : Held (List ℕ)
  pub led : InTurn (IsBitRead rows) (placed next first (all_bits width numbers)) start end
