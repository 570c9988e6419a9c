-- Tables that have the row of each quantile, and entries by the number of a symbol.
use Rattle.std.specs.Prelude.{◌≡◌, ℕ, ◌+◌, ◌<◌, Bool, cond, nat_eq, nat_lt, List, [], ◌∷◌, ◌++◌, All, drop, length, map, replicate, Option, None, slice_index_or}
use Rattle.std.specs.List.{filter, range_with_len}
use Rattle.std.specs.Option.{option_map}
use Rattle.constriction_coders.specs.declared.stack.prepared_entry.PreparedEntry.{PreparedEntry}
use Rattle.constriction_model.specs.Acceptance.{IsAccepted}
use Rattle.constriction_model.specs.Rows.{Row, entry_of, rows_from, rows_of, symbols_of}

-- each row as often as it has quantiles
abbrev pub spread : {Symbol : Type 0} → List (Row Symbol) → List (Row Symbol)
spread [] = []
spread (r ∷ rs) = replicate r.weight r ++ spread rs

-- the rows that stand where they begin, in a table whose first place is the quantile q
abbrev pub rows_begun : {Symbol : Type 0} → ℕ → List (Row Symbol) → List (Row Symbol)
rows_begun q [] = []
rows_begun q (r ∷ rs) = cond (nat_eq r.left q) (r ∷ rows_begun (q + 1) rs) (rows_begun (q + 1) rs)

-- the rows of a table: those that stand where they begin
abbrev pub rows_in_table : {Symbol : Type 0} → List (Row Symbol) → List (Row Symbol)
rows_in_table table = rows_begun 0 table

-- the rows that stand where they begin, at the quantile q or after it
abbrev pub rows_after : {Symbol : Type 0} → ℕ → List (Row Symbol) → List (Row Symbol)
rows_after q table = rows_begun q (drop q table)

-- the symbols of the numbers 0, 1, ..
abbrev pub first_symbols : {Symbol : Type 0} → (ℕ → Symbol) → ℕ → List Symbol
first_symbols symbol_of n = map symbol_of (range_with_len 0 n)

-- the rows of weights for the symbols of the numbers 0, 1, .., without those of weight 0
abbrev pub weighted_rows : {Symbol : Type 0} → (ℕ → Symbol) → List ℕ → List (Row Symbol)
weighted_rows symbol_of weights = filter (λ r. nat_lt 0 r.weight) (rows_of (first_symbols symbol_of (length weights)) weights)

-- the left cumulative and the weight of a prepared entry
abbrev pub plain_entry : Option PreparedEntry → Option (ℕ × ℕ)
plain_entry entry = option_map (λ e. (e.left, e.weight)) entry

-- ---- symbols with numbers: no two have the same one

module _ {Symbol : Type 0} (number : Symbol → ℕ) where
  -- symbols are equal if their numbers are
  abbrev pub same_number : Symbol → Symbol → Bool
  same_number s t = nat_eq (number s) (number t)

  -- the rows with the number of each symbol in its place
  abbrev pub numbered : List (Row Symbol) → List (Row ℕ)
  numbered rows = map (λ r. record { symbol = number r.symbol; left = r.left; weight = r.weight }) rows

  -- a table has the row of each quantile: its rows tile, and each stands at each of its quantiles
  pub record IsTable (bits precision : ℕ) (table : List (Row Symbol)) : Type 0 where
    pub accepted : IsAccepted bits precision (map (λ r. r.weight) (rows_in_table table))
    pub in_order : numbered (rows_in_table table)
        ≡ numbered (rows_of (symbols_of (rows_in_table table)) (map (λ r. r.weight) (rows_in_table table)))
    pub each : numbered table ≡ numbered (spread (rows_in_table table))

  -- these places, of which the first is the quantile q, have each row at each of its quantiles
  pub record StandsFrom (q : ℕ) (places : List (Row Symbol)) : Type 0 where
    pub positive : All (λ w. 0 < w) (map (λ r. r.weight) (rows_begun q places))
    pub in_order : numbered (rows_begun q places)
        ≡ numbered (rows_from q (symbols_of (rows_begun q places)) (map (λ r. r.weight) (rows_begun q places)))
    pub each : numbered places ≡ numbered (spread (rows_begun q places))

  -- a list has the entry of each symbol at the symbol's number, and none at the number of another one, or it ends before that
  abbrev pub HasEntries : List (Option PreparedEntry) → List (Row Symbol) → Type 0
  HasEntries list rows = (s : Symbol) → plain_entry (slice_index_or list (number s) None) ≡ entry_of same_number rows s
