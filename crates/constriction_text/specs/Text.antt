-- The text that answers an input.
use Rattle.std.specs.Prelude.{◌≡◌, ℕ, ◌^◌, ◌⊎◌, true, ◌&&◌, ◌==◌, nat_eq, nat_le, nat_lt, List, [], ◌∷◌, ◌++◌, codes, decimal, find}
use Rattle.std.specs.Prelude.{if◌then◌else◌}
use Rattle.std.specs.List.{AllZip, concat, flat_map, slice_split}
use Rattle.std.specs.Option.{option_map_or}
use Rattle.constriction_model.specs.Acceptance.{IsAccepted, completed}
use Rattle.constriction_model.specs.Rows.{Row, contiguous_rows, uniform_rows, entry_of}
use Rattle.constriction_model.specs.Scanning.{holds}
use Rattle.constriction_text.specs.declared.line.Format.{Format}
use Rattle.constriction_text.specs.Grammar.{Request, table, infer, quantile, symbol, uniform, width_of, precision_of, Spells}

-- the parts without the last one if that is empty
abbrev pub without_last_empty : List (List ℕ) → List (List ℕ)
without_last_empty [] = []
without_last_empty ([] ∷ []) = []
without_last_empty ((byte ∷ bytes) ∷ []) = (byte ∷ bytes) ∷ []
without_last_empty (part ∷ (next ∷ parts)) = part ∷ without_last_empty (next ∷ parts)

-- the lines of an input: its parts between the bytes 10, without the last one if that is empty
abbrev pub lines_of : List ℕ → List (List ℕ)
lines_of input = without_last_empty (slice_split (λ byte. byte == 10) input)

-- the line of a row: its symbol, its left cumulative and its weight
abbrev pub row_text : Row ℕ → List ℕ
row_text row = decimal row.symbol ++ codes " " ++ decimal row.left ++ codes " " ++ decimal row.weight ++ codes "\n"

-- the lines of rows
abbrev pub rows_text : List (Row ℕ) → List ℕ
rows_text rows = flat_map row_text rows

-- the line of the row that holds a quantile below 2 ^ precision; if the rows tile, there is one
abbrev pub quantile_text : ℕ → List (Row ℕ) → ℕ → List ℕ
quantile_text precision rows q =
    if nat_lt q (2 ^ precision) then option_map_or row_text (find (holds q) rows) [] else codes "range\n"

-- the line of a symbol's entry, if it has one
abbrev pub symbol_text : List (Row ℕ) → ℕ → List ℕ
symbol_text rows s =
    option_map_or (λ entry. row_text (record { symbol = s; left = entry.0; weight = entry.1 }))
    (entry_of nat_eq rows s) (codes "none\n")

-- the lines of a uniform model of n symbols, if there is one
abbrev pub uniform_text : ℕ → ℕ → List ℕ
uniform_text precision n =
    if nat_le 2 n && nat_le n (2 ^ precision) then rows_text (uniform_rows precision n) else codes "range\n"

-- the text is that of the rows of these weights, or says that they are invalid
abbrev pub IsTextOfModel : Format → List ℕ → (List (Row ℕ) → List ℕ) → List ℕ → Type 0
IsTextOfModel format weights text_of_rows text =
    (IsAccepted (width_of format) (precision_of format) weights × (text ≡ text_of_rows (contiguous_rows weights)))
    ⊎ (¬ (IsAccepted (width_of format) (precision_of format) weights) × (text ≡ codes "invalid\n"))

-- the text answers the request
abbrev pub Answers : Request → List ℕ → Type 0
Answers (table format weights) = IsTextOfModel format weights rows_text
Answers (infer format weights) = IsTextOfModel format (completed (precision_of format) true weights) rows_text
Answers (quantile format q weights) = IsTextOfModel format weights (λ rows. quantile_text (precision_of format) rows q)
Answers (symbol format s weights) = IsTextOfModel format weights (λ rows. symbol_text rows s)
Answers (uniform format n) = λ text. text ≡ uniform_text (precision_of format) n

-- the text answers the line
abbrev pub IsAnswer : List ℕ → List ℕ → Type 0
IsAnswer line text =
    ((request : Request) × Spells line request × Answers request text)
    ⊎ (((request : Request) → ¬ (Spells line request)) × (text ≡ codes "bad line\n"))

-- the text is the answers to these lines, one after another
abbrev pub AreAnswers : List (List ℕ) → List ℕ → Type 0
AreAnswers lines text = (answers : List (List ℕ)) × AllZip IsAnswer lines answers × (text ≡ concat answers)

-- the text answers the lines of an input
abbrev pub IsTextOf : List ℕ → List ℕ → Type 0
IsTextOf input = AreAnswers (lines_of input)
