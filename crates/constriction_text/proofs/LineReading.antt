-- What a line asks for, by how it was cut at its first two spaces.
use Rattle.std.proofs.Common.{◌≡◌, ℕ, List, [], ◌∷◌, Option, Some, None, Result, subst, sym}
use Rattle.std.specs.Prelude.{◌==◌}
use Rattle.std.specs.List.{slice_split}
use Rattle.std.specs.Option.{option_map}
use Rattle.std.specs.Result.{IfOk}
use Rattle.constriction_text.specs.declared.line.Command.{Command}
use Rattle.constriction_text.specs.declared.line.Format.{Format}
use Rattle.constriction_text.specs.Grammar.{view}
use Rattle.constriction_text.specs.private.Reading.{read_format, read_line, read_numbers, read_request, read_words, ◌>>=◌}

-- a line of one word asks for nothing
pub one_word : (line word : List ℕ) → slice_split (λ byte. byte == 32) line ≡ word ∷ [] → None ≡ read_line line
unfolding read_line read_words
one_word line word parts = rw parts

more_words : (line key text word : List ℕ) (words : List (List ℕ))
    → slice_split (λ byte. byte == 32) line ≡ key ∷ slice_split (λ byte. byte == 32) text
    → slice_split (λ byte. byte == 32) text ≡ word ∷ words
    → read_line line ≡ (read_format word >>= λ format. read_numbers words >>= read_request key format)
unfolding read_line read_words
more_words line key text word words parts others = rw (parts, others)

-- a line whose second word names no format asks for nothing
pub no_format : (line key text word : List ℕ) (words : List (List ℕ))
    → slice_split (λ byte. byte == 32) line ≡ key ∷ slice_split (λ byte. byte == 32) text
    → slice_split (λ byte. byte == 32) text ≡ word ∷ words → None ≡ read_format word → None ≡ read_line line
no_format line key text word words parts others none = rw (more_words line key text word words parts others, sym none)

-- a line whose second word names a format asks for what its keyword makes of the words after it
pub with_format : {E : Type 0} (line key text word : List ℕ) (words : List (List ℕ)) (format : Format)
    (read : Result (Option Command) E) → slice_split (λ byte. byte == 32) line ≡ key ∷ slice_split (λ byte. byte == 32) text
    → slice_split (λ byte. byte == 32) text ≡ word ∷ words
    → Some format ≡ read_format word
    → IfOk read (λ found. option_map view found ≡ (read_numbers words >>= read_request key format))
    → IfOk read (λ found. option_map view found ≡ read_line line)
with_format line key text word words format read parts others some e =
    let asked : (read_numbers words >>= read_request key format) ≡ read_line line =
    rw (more_words line key text word words parts others, sym some) in
    subst (λ request. IfOk read (λ found. option_map view found ≡ request)) asked e
