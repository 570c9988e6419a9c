-- How a line is cut into words, and the number that a word spells.
use Rattle.std.specs.Prelude.{ℕ, ◌^◌, List, [], length, Option, Some, None}
use Rattle.std.specs.Prelude.{nat_lt, nat_le, ◌==◌, ◌&&◌, if◌then◌else◌}
use Rattle.std.specs.List.{slice_split}
use Rattle.std.specs.Str.{all_ascii_digits}
use Rattle.std.specs.Str.Parse.{digits_value}

-- the parts of what follows a separator; none without a separator
abbrev pub parts_of : ℕ → Option (List ℕ) → List (List ℕ)
parts_of separator None = []
parts_of separator (Some bytes) = slice_split (λ byte. byte == separator) bytes

-- the number that a word spells
unfoldable pub read_number : List ℕ → Option ℕ
read_number word =
    if nat_lt (digits_value 10 word) (2 ^ 64) && all_ascii_digits word && nat_lt 0 (length word) && nat_le (length word) 20
    then Some (digits_value 10 word) else None
