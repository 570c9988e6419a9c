-- A model of one bit.
use Rattle.std.specs.Prelude.{ℕ, ◌-◌, List, [], ◌∷◌, Bool, true, false}
use Rattle.std.proofs.Common.{suc, zero}
use Rattle.constriction_model.specs.Rows.{Row, rows_of}

-- the rows of a bit that is 0 with this weight out of 2 ^ 16
abbrev pub bit_rows : ℕ → List (Row Bool)
bit_rows weight = rows_of (false ∷ true ∷ []) (weight ∷ (65536 - weight) ∷ [])

-- the weight of 0 by the rows of a bit, of which that of 0 is the first
abbrev pub zero_weight : List (Row Bool) → ℕ
zero_weight [] = 0
zero_weight (row ∷ rows) = row.weight

-- a weight, but 1 for 0
abbrev pub at_least_one : ℕ → ℕ
at_least_one zero = 1
at_least_one (suc n) = suc n

-- a bit as a number
abbrev pub bit_number : Bool → ℕ
bit_number false = 0
bit_number true = 1
