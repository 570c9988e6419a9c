-- The bits of numbers and bytes, the highest first.
use Rattle.std.specs.Prelude.{ℕ, zero, suc, ◌/◌, ◌%◌, List, [], ◌∷◌, ◌++◌}
use Rattle.std.specs.List.{flat_map}

-- the lowest bits of a number, as many as this, the highest of them first
unfoldable pub bits : ℕ → ℕ → List ℕ
bits zero n = []
bits (suc count) n = bits count (n / 2) ++ n % 2 ∷ []

-- the bits of bytes
abbrev pub bits_of_bytes : List ℕ → List ℕ
bits_of_bytes bytes = flat_map (bits 8) bytes
