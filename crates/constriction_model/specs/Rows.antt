-- The rows of a model: which interval of 0 .. 2 ^ precision each symbol has.
use Rattle.std.specs.Prelude.{◌≡◌, ℕ, ◌+◌, ◌-◌, ◌*◌, ◌/◌, ◌^◌, ◌<◌, ◌≤◌, Bool, List, [], ◌∷◌, ◌++◌, length, map, replicate, reverse, Contains, find, Option}
use Rattle.std.specs.List.{range_with_len}
use Rattle.std.specs.Option.{option_map}
use Rattle.constriction_model.specs.Acceptance.{IsAccepted}

-- a row: a symbol, its left cumulative (the first of its quantiles), and its weight (how many quantiles it has)
pub record Row (Symbol : Type 0) : Type 0 where
  pub symbol : Symbol
  pub left : ℕ
  pub weight : ℕ

-- the rows of symbols and weights: the first row begins at `left`, and each other row begins where the row before it ends
abbrev pub rows_from : {Symbol : Type 0} → ℕ → List Symbol → List ℕ → List (Row Symbol)
rows_from left (s ∷ ss) (w ∷ ws) = record { symbol = s; left = left; weight = w } ∷ rows_from (left + w) ss ws
rows_from left [] ws = []
rows_from left (s ∷ ss) [] = []

-- the rows of symbols and weights: the left cumulative of each is the sum of the weights before it
abbrev pub rows_of : {Symbol : Type 0} → List Symbol → List ℕ → List (Row Symbol)
rows_of = rows_from 0

-- the symbols of rows, in order
abbrev pub symbols_of : {Symbol : Type 0} → List (Row Symbol) → List Symbol
symbols_of rows = map (λ r. r.symbol) rows

-- rows tile: they are the rows of their symbols and weights, and a model accepts these weights
pub record RowsTile {Symbol : Type 0} (bits precision : ℕ) (rows : List (Row Symbol)) : Type 0 where
  pub accepted : IsAccepted bits precision (map (λ r. r.weight) rows)
  pub in_order : rows ≡ rows_of (map (λ r. r.symbol) rows) (map (λ r. r.weight) rows)

-- r is the row of the quantile q: it is one of these rows, and holds q
pub record IsRowOf {Symbol : Type 0} (rows : List (Row Symbol)) (q : ℕ) (r : Row Symbol) : Type 0 where
  pub among : Contains rows r
  pub from : r.left ≤ q
  pub to : q < r.left + r.weight

-- the entry of a symbol: left cumulative and weight of the last row whose symbol equals it, or None if there is no such row
abbrev pub entry_of : {Symbol : Type 0} → (Symbol → Symbol → Bool) → List (Row Symbol) → Symbol → Option (ℕ × ℕ)
entry_of eq rows s = option_map (λ r. (r.left, r.weight)) (find (λ r. eq r.symbol s) (reverse rows))

-- the rows of a contiguous model of these weights: its symbols are 0, 1, ..
abbrev pub contiguous_rows : List ℕ → List (Row ℕ)
contiguous_rows weights = rows_of (range_with_len 0 (length weights)) weights

-- the weights of a uniform model of n symbols: each is 2 ^ precision / n, rounded down, except the last one, which is what the others
-- leave
abbrev pub uniform_weights : ℕ → ℕ → List ℕ
uniform_weights precision n =
    replicate (n - 1) (2 ^ precision / n) ++ (2 ^ precision - (n - 1) * (2 ^ precision / n)) ∷ []

-- the rows of a uniform model of n symbols
abbrev pub uniform_rows : ℕ → ℕ → List (Row ℕ)
uniform_rows precision n = contiguous_rows (uniform_weights precision n)
