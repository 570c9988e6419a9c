-- What a line asks for, and how it is spelled.
use Rattle.std.specs.Prelude.{◌≡◌, ℕ, ◌<◌, ◌≤◌, ◌^◌, List, [], ◌∷◌, length, codes}
use Rattle.std.specs.List.{AllZip, join_with_byte}
use Rattle.std.specs.Str.Parse.{IsNumeral, digits_value}
use Rattle.constriction_text.specs.declared.line.Format.{Format}
use Rattle.constriction_text.specs.declared.line.Format.TheVariants.{U8Precision6, U8Precision8, U16Precision12}
use Rattle.constriction_text.specs.declared.line.Command.{Command}
use Rattle.constriction_text.specs.declared.line.Command.TheVariants as command

-- the word of a format
abbrev pub format_word : Format → List ℕ
format_word U8Precision6 = codes "u8/6"
format_word U8Precision8 = codes "u8/8"
format_word U16Precision12 = codes "u16/12"

-- how many bits the probabilities of a format have
abbrev pub width_of : Format → ℕ
width_of U8Precision6 = 8
width_of U8Precision8 = 8
width_of U16Precision12 = 16

-- the precision of a format: its probabilities sum to 2 to this power
abbrev pub precision_of : Format → ℕ
precision_of U8Precision6 = 6
precision_of U8Precision8 = 8
precision_of U16Precision12 = 12

-- what a line asks for: a `Command`, with a list in the place of each `Vec`
pub data Request : Type 0 where
  table : Format → List ℕ → Request
  infer : Format → List ℕ → Request
  quantile : Format → ℕ → List ℕ → Request
  symbol : Format → ℕ → List ℕ → Request
  uniform : Format → ℕ → Request

-- the format that a request names
abbrev pub format_of : Request → Format
format_of (table format weights) = format
format_of (infer format weights) = format
format_of (quantile format q weights) = format
format_of (symbol format s weights) = format
format_of (uniform format n) = format

-- the request of a command
abbrev pub view : Command → Request
view (command.Table format weights) = table format weights.items
view (command.Infer format weights) = infer format weights.items
view (command.Quantile format q weights) = quantile format q weights.items
view (command.Symbol format s weights) = symbol format s weights.items
view (command.Uniform format n) = uniform format n

-- the word spells the number
pub record IsNumber (word : List ℕ) (number : ℕ) : Type 0 where
  pub digits : IsNumeral 10 word
  pub short : length word ≤ 20
  pub value : digits_value 10 word ≡ number
  pub small : number < 2 ^ 64

-- the line is the keyword, the format and the numbers, with one space, byte 32, between each two
abbrev pub IsLineOf : List ℕ → List ℕ → Format → List ℕ → Type 0
IsLineOf line keyword format numbers =
    (words : List (List ℕ)) × AllZip IsNumber words numbers × (line ≡ join_with_byte 32 (keyword ∷ format_word format ∷ words))

-- the line spells the request
abbrev pub Spells : List ℕ → Request → Type 0
Spells line (table format weights) = IsLineOf line (codes "table") format weights
Spells line (infer format weights) = IsLineOf line (codes "infer") format weights
Spells line (quantile format q weights) = IsLineOf line (codes "quantile") format (q ∷ weights)
Spells line (symbol format s weights) = IsLineOf line (codes "symbol") format (s ∷ weights)
Spells line (uniform format n) = IsLineOf line (codes "uniform") format (n ∷ [])
