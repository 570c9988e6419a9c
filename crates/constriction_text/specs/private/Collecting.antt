-- Text that is collected before it is written.
use Rattle.std.specs.Prelude.{ℕ, ◌≡◌, List, ◌++◌, Option}
use Rattle.std.specs.Io.KnownBytes.{Appends}

-- a beginning of the text was written, and nothing else, and `left` is the rest of the text
abbrev pub WritesFront : Option (List ℕ) → Option (List ℕ) → List ℕ → List ℕ → Type 0
WritesFront old new text left = (written : List ℕ) × (written ++ left ≡ text) × Appends old new written
