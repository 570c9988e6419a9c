-- How models store their rows: as left cumulatives, with a symbol beside each or with the total after them. No public clause cites this
-- module. The definitions of the rows and of the cdf of these models do, and ghost fields of models and of symbol tables.
use Rattle.std.specs.Prelude.{◌≡◌, ℕ, ◌+◌, ◌-◌, ◌%◌, ◌^◌, ◌<◌, ◌≤◌, List, [], ◌∷◌, ◌++◌, length, map, take, slice_index, slice_index_or}
use Rattle.constriction_model.specs.Acceptance.{IsAccepted}
use Rattle.constriction_model.specs.Rows.{Row, contiguous_rows, rows_of}
use Rattle.constriction_model.specs.Tables.{rows_between}

-- the left cumulatives of these weights, from `left` on
abbrev pub lefts_from : ℕ → List ℕ → List ℕ
lefts_from left [] = []
lefts_from left (w ∷ ws) = left ∷ lefts_from (left + w) ws

-- the weights of rows that have these left cumulatives and end at `total`
abbrev pub gaps : ℕ → List ℕ → List ℕ
gaps total [] = []
gaps total (l ∷ []) = (total - l) ∷ []
gaps total (l ∷ (m ∷ ls)) = (m - l) ∷ gaps total (m ∷ ls)

-- the weights of rows with these left cumulatives, which tile
abbrev pub weights_of : ℕ → List ℕ → List ℕ
weights_of precision lefts = gaps (2 ^ precision) lefts

-- left cumulatives that stand for accepted weights
pub record IsStored (bits precision : ℕ) (lefts : List ℕ) : Type 0 where
  pub accepted : IsAccepted bits precision (weights_of precision lefts)
  pub in_order : lefts ≡ lefts_from 0 (weights_of precision lefts)

-- the left cumulatives of a cdf: all of it but its last number
abbrev pub lefts_in : List ℕ → List ℕ
lefts_in cdf = take (length cdf - 1) cdf

-- a cdf over words of `bits` bits: the left cumulatives of accepted weights, and after them the total, which wraps to 0 if it is no word
pub record IsCdf (bits precision : ℕ) (cdf : List ℕ) : Type 0 where
  pub stored : IsStored bits precision (lefts_in cdf)
  pub ends : cdf ≡ lefts_in cdf ++ (2 ^ precision % 2 ^ bits) ∷ []

-- the total over words of `bits` bits, which wraps to 0 if it is no word
abbrev pub total_of : (bits precision : ℕ) → ℕ
total_of bits precision = 2 ^ precision % 2 ^ bits

-- the end of the row at an index, over such words: the next left cumulative, or the total
abbrev pub end_at : (bits precision : ℕ) → List ℕ → ℕ → ℕ
end_at bits precision lefts i = slice_index_or lefts (i + 1) (total_of bits precision)

-- two numbers beside the left cumulatives, by which the end of a row is computed without a choice: with one or two rows, the ends of the
-- first and of the last row; with more, the last left cumulative minus the total, modulo 2 ^ bits, and 0
pub record AreEndWords (bits precision : ℕ) (lefts end_words : List ℕ) : Type 0 where
  pub two : length end_words ≡ 2
  pub ends : length lefts ≤ 2 → end_words ≡ end_at bits precision lefts 0 ∷ total_of bits precision ∷ []
  pub fits : 2 < length lefts → slice_index end_words 0 < 2 ^ bits
  pub leads : 2 < length lefts
      → (total_of bits precision + slice_index end_words 0) % 2 ^ bits ≡ slice_index lefts (length lefts - 1)
  pub none : 2 < length lefts → slice_index end_words 1 ≡ 0

-- the left cumulatives, and after them the total
abbrev pub with_total : (bits precision : ℕ) → List ℕ → List ℕ
with_total bits precision lefts = lefts ++ total_of bits precision ∷ []

-- the rows of a contiguous model with such a cdf, from one index up to another
abbrev pub rows_stored : ℕ → List ℕ → ℕ → ℕ → List (Row ℕ)
rows_stored precision cdf from to = rows_between from to (contiguous_rows (weights_of precision (lefts_in cdf)))

-- the rows of a model that stores each row's left cumulative and symbol
abbrev pub rows_paired : {Word Symbol : Type 0} → (Word → ℕ) → ℕ → List (Word × Symbol) → List (Row Symbol)
rows_paired whole precision entries = rows_of (map (λ x. x.1) entries) (weights_of precision (map (λ x. whole x.0) entries))
