-- The texts that answer a request, a line and an input, as functions.
use Rattle.std.specs.Prelude.{ℕ, ◌^◌, Bool, true, ◌&&◌, ◌==◌, nat_lt, List, codes, sum, Option, Some, None, if◌then◌else◌}
use Rattle.std.specs.List.{flat_map, list_all}
use Rattle.constriction_model.specs.Acceptance.{completed}
use Rattle.constriction_model.specs.Rows.{Row, contiguous_rows}
use Rattle.constriction_text.specs.Grammar.{Request, table, infer, quantile, symbol, uniform, width_of, precision_of}
use Rattle.constriction_text.specs.private.Reading.{read_line}
use Rattle.constriction_text.specs.Text.{lines_of, rows_text, quantile_text, symbol_text, uniform_text}

-- whether weights are accepted over words of `bits` bits: each is positive and a word, and their sum is 2 ^ precision
abbrev pub are_accepted : ℕ → ℕ → List ℕ → Bool
are_accepted bits precision weights =
    list_all (λ weight. nat_lt 0 weight && nat_lt weight (2 ^ bits)) weights && sum weights == 2 ^ precision

-- the text of the rows of a model of these weights if they are accepted, and otherwise that they are invalid
abbrev pub text_of_model : ℕ → ℕ → List ℕ → (List (Row ℕ) → List ℕ) → List ℕ
text_of_model bits precision weights text =
    if are_accepted bits precision weights then text (contiguous_rows weights) else codes "invalid\n"

-- the text that answers a request; only `infer` infers the last weight
unfoldable pub answer_of : Request → List ℕ
answer_of (table format weights) = text_of_model (width_of format) (precision_of format) weights rows_text
answer_of (infer format weights) =
    text_of_model (width_of format) (precision_of format) (completed (precision_of format) true weights) rows_text
answer_of (quantile format q weights) =
    text_of_model (width_of format) (precision_of format) weights (λ rows. quantile_text (precision_of format) rows q)
answer_of (symbol format s weights) = text_of_model (width_of format) (precision_of format) weights (λ rows. symbol_text rows s)
answer_of (uniform format n) = uniform_text (precision_of format) n

-- the answer to a line that spells this request, or none
abbrev pub reply_to : Option Request → List ℕ
reply_to (Some request) = answer_of request
reply_to None = codes "bad line\n"

-- the answer to a line
unfoldable pub answer_to : List ℕ → List ℕ
answer_to line = reply_to (read_line line)

-- the answers to lines, one after another
abbrev pub answers_of : List (List ℕ) → List ℕ
answers_of lines = flat_map answer_to lines

-- the text that answers an input
abbrev pub text_of : List ℕ → List ℕ
text_of input = answers_of (lines_of input)
