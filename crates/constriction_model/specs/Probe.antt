-- Searching a list of cumulatives by counted questions, and the rows that a model's probe covers.
use Rattle.std.specs.Prelude.{◌≡◌, ◌↔◌, ℕ, suc, zero, ◌+◌, ◌-◌, ◌/◌, ◌<◌, ◌≤◌, List, length, map, take, drop, slice_index, slice_index_or}
use Rattle.std.specs.List.Sorted.{IsStrictlyIncreasing}
use Rattle.constriction_model.specs.Rows.{Row, IsRowOf}
use Rattle.constriction_model.specs.declared.probe.Probe.{Ghosts}

-- the number of binary digits of n, or `most` if that is less
abbrev pub digits_in : ℕ → ℕ → ℕ
digits_in zero n = 0
digits_in (suc most) zero = 0
digits_in (suc most) (suc n) = 1 + digits_in most (suc n / 2)

-- the number of binary digits of n: 0 for 0, else one more than its half, rounded down, has
unfoldable pub digits : ℕ → ℕ
digits n = digits_in n n

-- a list that can be searched for q: it is not empty, it increases, and it begins at q or below
pub record IsSearchable (cumulatives : List ℕ) (q : ℕ) : Type 0 where
  pub some : 0 < length cumulatives
  pub increases : IsStrictlyIncreasing cumulatives
  pub begins : slice_index cumulatives 0 ≤ q

-- the greatest index whose cumulative is at most q
pub record IsLastAtMost (cumulatives : List ℕ) (q i : ℕ) : Type 0 where
  pub in_bounds : i < length cumulatives
  pub at_most : slice_index cumulatives i ≤ q
  pub last : (j : ℕ) → i < j → j < length cumulatives → q < slice_index cumulatives j

-- the row at index i is the row of the quantile q
pub record IsRowIndexOf {Symbol : Type 0} (rows : List (Row Symbol)) (q i : ℕ) : Type 0 where
  pub in_bounds : i < length rows
  pub row : (r : Row Symbol) → IsRowOf rows q (slice_index_or rows i r)

-- A probe for the quantile q that was asked nothing yet. It has the left cumulatives, in order, of rows from `first` on, and these are the
-- rows in question and no others. The greatest index whose cumulative is at most q, plus `first`, is the index of the quantile's row. To
-- search it takes no more questions than to search all rows.
pub record IsProbeFor {Symbol P Word : Type 0} (g : Ghosts P Word) (rows : List (Row Symbol)) (InQuestion : Row Symbol → Type 0)
    (q first : ℕ) (probe : P) : Type 0 where
  pub exactly : (i : ℕ) (r : Row Symbol) → i < length rows
      → InQuestion (slice_index_or rows i r) ↔ ((first ≤ i) × (i < first + length (g.cumulatives probe)))
  pub within : first + length (g.cumulatives probe) ≤ length rows
  pub in_order : g.cumulatives probe ≡ take (length (g.cumulatives probe)) (drop first (map (λ r. r.left) rows))
  pub searchable : IsSearchable (g.cumulatives probe) q
  pub fresh : g.questions probe ≡ 0
  pub few : digits (length (g.cumulatives probe) - 1) ≤ digits (length rows - 1)
  pub found : (i : ℕ) → IsLastAtMost (g.cumulatives probe) q i → IsRowIndexOf rows q (first + i)
