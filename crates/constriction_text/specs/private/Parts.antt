-- The first numbers of a line.
use Rattle.std.specs.Prelude.{ℕ, List, [], ◌∷◌, Option, Some, None}

-- a first number and those after it
abbrev pub first_and_others : List ℕ → Option (ℕ × List ℕ)
first_and_others [] = None
first_and_others (number ∷ numbers) = Some (number, numbers)

-- a number that stands alone
abbrev pub only_number : List ℕ → Option ℕ
only_number [] = None
only_number (number ∷ []) = Some number
only_number (number ∷ other ∷ others) = None
