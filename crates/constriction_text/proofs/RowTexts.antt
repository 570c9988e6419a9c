-- How the rows of a model are printed.
use Rattle.std.proofs.Common.{refl, ◌≡◌, ℕ, ◌/◌, ◌^◌, ◌<◌, List, ◌∷◌, ◌++◌, append_assoc, arith}
use Rattle.std.proofs.Math.Nat.{div-lt_iff_lt-mul}
use Rattle.std.proofs.Math.Pow.{pow_pos}
use Rattle.std.proofs.lemmas.Bool.{lt-ltb}
use Rattle.constriction_model.specs.Rows.{Row, RowsTile, IsRowOf}
use Rattle.constriction_text.specs.Text.{row_text, rows_text, quantile_text}
use Rattle.constriction_model.proofs.Finding.{find_row}

-- a text with the line of the first row that is left, and the lines of the others, are all
pub lines-more : (text more all : List ℕ) (first : Row ℕ) (rows left : List (Row ℕ)) (s l w : ℕ)
    → rows ≡ first ∷ left → s ≡ first.symbol → l ≡ first.left → w ≡ first.weight
    → more ≡ text ++ row_text (record { symbol = s; left = l; weight = w }) → text ++ rows_text rows ≡ all
    → more ++ rows_text left ≡ all
lines-more text more all first rows left s l w is same_symbol same_left same_weight pushed so_far =
    rw (pushed, append_assoc, same_symbol, same_left, same_weight) (rw is at so_far)

-- the line of a quantile's row is the answer
pub quantile_line : (bits precision : ℕ) (rows : List (Row ℕ)) (q : ℕ) (r : Row ℕ) → q < 2 ^ precision
    → RowsTile bits precision rows → IsRowOf rows q r
    → row_text r ≡ quantile_text precision rows q
quantile_line bits precision rows q r below tile is = rw (lt-ltb q (2 ^ precision) below, find_row bits precision rows q r tile is) refl

-- a row with equal numbers is the row of the quantile too
pub same_row : (rows : List (Row ℕ)) (q q' s l l' w w' : ℕ)
    → IsRowOf rows q' (record { symbol = s; left = l'; weight = w' }) → q' ≡ q → l ≡ l' → w ≡ w'
    → IsRowOf rows q (record { symbol = s; left = l; weight = w })
same_row rows q q' s l l' w w' is same left weight = rw (left, weight, ← same) is

-- ---- quantiles in range

-- a number without whole parts of 2 ^ precision is below it
pub is_below : (precision q : ℕ) → q / 2 ^ precision ≡ 0 → q < 2 ^ precision
is_below precision q e =
    let below = (div-lt_iff_lt-mul {k = 2 ^ precision} {x = q} {y = 1} (pow_pos precision)).0 (omega (arith, e)) in
    omega (arith, below)
