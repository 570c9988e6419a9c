-- Walking through the rows of a stored cdf, from either end.
use Rattle.std.proofs.Common.{◌≡◌, ℕ, ◌+◌, ◌-◌, ◌<◌, ◌≤◌, List, [], ◌∷◌, ◌++◌, length, get_or, map, refl, ◌∙◌, arith}
use Rattle.std.proofs.lemmas.List.{length-map}
use Rattle.constriction_model.specs.Rows.{contiguous_rows}
use Rattle.constriction_stored_rows.specs.Stored.{IsCdf, lefts_in, weights_of}
use Rattle.constriction_stored_rows.specs.lemmas.StoredRows.{stored-at}
use Rattle.constriction_stored_rows.specs.Stored.{rows_stored}
use Rattle.constriction_model.proofs.StepLemmas.{all-between, first-between, last-between, length-between}
use Rattle.constriction_stored_rows.proofs.CdfLemmas.{cdf-long, cdf-rows}

-- the rows of a stored cdf that are left
module _ (bits precision : ℕ) (cdf : List ℕ) (t : IsCdf bits precision cdf) where
  -- as many rows are left as lie between the two ends
  pub length-stored : (i j : ℕ) → j < length cdf → length (rows_stored precision cdf i j) ≡ j - i
  length-stored i j h =
      length-between (contiguous_rows (weights_of precision (lefts_in cdf))) i j (omega (arith, cdf-rows bits precision cdf t))

  -- the row at an index
  pub stored-here : (i l w : ℕ) → i + 1 < length cdf
      → l ≡ get_or (lefts_in cdf) i 0 → w ≡ get_or (weights_of precision (lefts_in cdf)) i 0
      → get_or (contiguous_rows (weights_of precision (lefts_in cdf))) i (record { symbol = i; left = l; weight = w })
      ≡ record { symbol = i; left = l; weight = w }
  stored-here i l w h le we =
      stored-at bits precision (lefts_in cdf) t.stored i _ (omega (arith, cdf-long bits precision cdf t)) ∙ rw (← le, ← we) refl

  -- the first row that is left, and the others
  pub first-stored : (i j l w : ℕ) → i < j → j < length cdf
      → l ≡ get_or (lefts_in cdf) i 0 → w ≡ get_or (weights_of precision (lefts_in cdf)) i 0
      → rows_stored precision cdf i j ≡ record { symbol = i; left = l; weight = w } ∷ rows_stored precision cdf (i + 1) j
  first-stored i j l w h k le we =
      first-between (contiguous_rows (weights_of precision (lefts_in cdf))) i j _ h (omega (arith, cdf-rows bits precision cdf t))
      (stored-here i l w (omega arith) le we)

  -- the last row that is left, and the others
  pub last-stored : (i j l w : ℕ) → i < j → j < length cdf
      → l ≡ get_or (lefts_in cdf) (j - 1) 0 → w ≡ get_or (weights_of precision (lefts_in cdf)) (j - 1) 0
      → rows_stored precision cdf i j
      ≡ rows_stored precision cdf i (j - 1) ++ record { symbol = j - 1; left = l; weight = w } ∷ []
  last-stored i j l w h k le we =
      last-between (contiguous_rows (weights_of precision (lefts_in cdf))) i j _ h (omega (arith, cdf-rows bits precision cdf t))
      (stored-here (j - 1) l w (omega arith) le we)

-- at first all rows of a stored cdf of words are left
pub all-stored : {Word : Type 0} (whole : Word → ℕ) (bits precision : ℕ) (words lent : List Word)
    → IsCdf bits precision (map whole words) → lent ≡ words
    → rows_stored precision (map whole lent) 0 (length lent - 1) ≡ contiguous_rows (weights_of precision (lefts_in (map whole words)))
all-stored whole bits precision words lent t e =
    let long : length words - 1 ≡ length (contiguous_rows (weights_of precision (lefts_in (map whole words)))) =
    omega (arith, cdf-rows bits precision (map whole words) t, length-map words whole) in
    rw e (all-between (contiguous_rows (weights_of precision (lefts_in (map whole words)))) (length words - 1) long)

-- a cdf that was lent is a cdf, and not empty
pub lent-cdf : {Word : Type 0} (whole : Word → ℕ) (bits precision : ℕ) (words lent : List Word)
    → IsCdf bits precision (map whole words) → lent ≡ words
    → IsCdf bits precision (map whole lent) × (0 ≤ length lent - 1) × (length lent - 1 < length lent) × (1 ≤ length lent)
lent-cdf whole bits precision words lent t e =
    let some : 1 ≤ length words = omega (arith, cdf-rows bits precision (map whole words) t, length-map words whole) in
    rw e (t, omega arith, omega arith, some)
