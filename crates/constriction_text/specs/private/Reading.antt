-- How a line is read: its words, and the request that they make.
use Rattle.std.specs.Prelude.{ℕ, List, [], ◌∷◌, codes, find, Option, Some, None, option_and_then, ◌==◌}
use Rattle.std.specs.List.{slice_split}
use Rattle.std.specs.Str.{bytes_eq}
use Rattle.constriction_text.specs.declared.line.Format.{Format}
use Rattle.constriction_text.specs.declared.line.Format.TheVariants.{U8Precision6, U8Precision8, U16Precision12}
use Rattle.constriction_text.specs.Grammar.{Request, table, infer, quantile, symbol, uniform}
use Rattle.constriction_text.specs.Grammar.{format_word}
use Rattle.constriction_text.specs.Words.{read_number}

infixl 10 ◌>>=◌
-- the next step, if the one before found something
abbrev pub ◌>>=◌ : {A B : Type 0} → Option A → (A → Option B) → Option B
found >>= next = option_and_then next found

-- the word that a line begins with
abbrev pub keyword : Request → List ℕ
keyword (table format weights) = codes "table"
keyword (infer format weights) = codes "infer"
keyword (quantile format q weights) = codes "quantile"
keyword (symbol format s weights) = codes "symbol"
keyword (uniform format n) = codes "uniform"

-- the numbers that follow the format
abbrev pub numbers_of : Request → List ℕ
numbers_of (table format weights) = weights
numbers_of (infer format weights) = weights
numbers_of (quantile format q weights) = q ∷ weights
numbers_of (symbol format s weights) = s ∷ weights
numbers_of (uniform format n) = n ∷ []

-- the numbers of words, if each spells one
unfoldable pub read_numbers : List (List ℕ) → Option (List ℕ)
read_numbers [] = Some []
read_numbers (word ∷ words) = do
  number ← read_number word
  numbers ← read_numbers words
  Some (number ∷ numbers)

-- the formats that a word can name
abbrev pub formats : List Format
formats = U8Precision6 ∷ U8Precision8 ∷ U16Precision12 ∷ []

-- the format that a word names
unfoldable pub read_format : List ℕ → Option Format
read_format word = find (λ format. bytes_eq word (format_word format)) formats

-- the requests that a format, a first number and no others can belong to
abbrev pub requests_of_one : Format → ℕ → List ℕ → List Request
requests_of_one format number [] = uniform format number ∷ []
requests_of_one format number (other ∷ others) = []

-- the requests of at least one number that a format and numbers can belong to
abbrev pub requests_of_some : Format → List ℕ → List Request
requests_of_some format [] = []
requests_of_some format (first ∷ others) = quantile format first others ∷ symbol format first others ∷ requests_of_one format first others

-- the requests that a format and numbers can belong to
abbrev pub requests_of : Format → List ℕ → List Request
requests_of format numbers = table format numbers ∷ infer format numbers ∷ requests_of_some format numbers

-- the request among them whose keyword is the word
unfoldable pub read_request : List ℕ → Format → List ℕ → Option Request
read_request word format numbers = find (λ request. bytes_eq word (keyword request)) (requests_of format numbers)

-- what the words of a line ask for
unfoldable pub read_words : List (List ℕ) → Option Request
read_words [] = None
read_words (word ∷ []) = None
read_words (word ∷ format ∷ words) = do
  format ← read_format format
  numbers ← read_numbers words
  read_request word format numbers

-- what a line asks for
unfoldable pub read_line : List ℕ → Option Request
read_line line = read_words (slice_split (λ byte. byte == 32) line)
