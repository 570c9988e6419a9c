-- The rows of a stored list, for the models' laws.
use Rattle.std.specs.Prelude.{◌≡◌, ℕ, ◌+◌, ◌^◌, ◌<◌, ◌≤◌, List, length, All, sum, take, Some, None, nat_eq}
use Rattle.std.proofs.Common.{get_or, ap, sym, ◌∙◌, arith, subst, inr}
use Rattle.std.proofs.lemmas.List.FromFn.{length-range_with_len, get_or-range_with_len}
use Rattle.constriction_model.specs.Rows.{Row, contiguous_rows, RowsTile, entry_of}
use Rattle.constriction_stored_rows.specs.Stored.{IsStored, weights_of}
use Rattle.constriction_model.specs.lemmas.Rows.{indices, length-rows, contiguous-at, contiguous-past}
use Rattle.constriction_stored_rows.specs.lemmas.Stored.{stored-row, length-gaps, lefts_from-at}
use Rattle.constriction_stored_rows.specs.lemmas.SymbolRows.{symbol-row_at, symbol-rows_tile}

-- there are as many rows as left cumulatives
pub rows-many : (precision : ℕ) (lefts : List ℕ) → length (contiguous_rows (weights_of precision lefts)) ≡ length lefts
rows-many precision lefts = omega (arith, length-rows (weights_of precision lefts), length-gaps (2 ^ precision) lefts)

module _ (bits precision : ℕ) (lefts : List ℕ) (t : IsStored bits precision lefts) where
  -- the symbols of the rows: their indices
  abbrev pub symbols : List ℕ
  symbols = indices (length (weights_of precision lefts))

  -- as many symbols as left cumulatives
  pub symbols-long : length symbols ≡ length lefts
  symbols-long = length-range_with_len 0 (length (weights_of precision lefts)) ∙ length-gaps (2 ^ precision) lefts

  -- the symbol at an index is the index
  pub symbol-at : (i d : ℕ) → i < length lefts → get_or symbols i d ≡ i
  symbol-at i d h =
      let here : i < length (weights_of precision lefts) = omega (arith, length-gaps (2 ^ precision) lefts) in
      get_or-range_with_len 0 (length (weights_of precision lefts)) i d here ∙ (let e : 0 + i ≡ i = omega arith in e)

  -- the row at an index
  pub stored-at : (i : ℕ) (d : Row ℕ) → i < length lefts
      → get_or (contiguous_rows (weights_of precision lefts)) i d
      ≡ record { symbol = i; left = get_or lefts i 0; weight = get_or (weights_of precision lefts) i 0 }
  stored-at i d h =
      symbol-row_at bits precision symbols lefts t symbols-long i d h
      ∙ ap (λ s. record { symbol = s; left = get_or lefts i 0; weight = get_or (weights_of precision lefts) i 0 })
      (symbol-at i d.symbol h)

  -- each row has quantiles, all below 2 ^ precision
  pub stored-within : All (λ r. (0 < r.weight) × (r.left + r.weight ≤ 2 ^ precision)) (contiguous_rows (weights_of precision lefts))
  stored-within = λ i d h.
      let here : i < length lefts = omega (arith, length-rows (weights_of precision lefts), length-gaps (2 ^ precision) lefts) in
      let row = stored-row bits precision lefts i t here in
      subst (λ (r : Row ℕ). (0 < r.weight) × (r.left + r.weight ≤ 2 ^ precision)) (sym (stored-at i d here))
      (row.positive, row.within)

  -- the rows tile
  pub stored-tiles : RowsTile bits precision (contiguous_rows (weights_of precision lefts))
  stored-tiles = symbol-rows_tile bits precision symbols lefts t symbols-long

  -- the entry of a symbol, and None for a number that is no symbol
  pub stored-entry : (i l w : ℕ) → i < length lefts → l ≡ get_or lefts i 0 → w ≡ get_or (weights_of precision lefts) i 0
      → Some (l, w) ≡ entry_of nat_eq (contiguous_rows (weights_of precision lefts)) i
  stored-entry i l w h le we =
      let ws : List ℕ = weights_of precision lefts in
      let here : i < length ws = omega (arith, length-gaps (2 ^ precision) lefts) in
      let left : 0 + sum (take i ws) ≡ l = sym (le ∙ ap (λ xs. get_or xs i 0) t.in_order ∙ lefts_from-at 0 ws i here) in
      let e : 0 + i ≡ i = omega arith in
      sym (ap (entry_of nat_eq (contiguous_rows ws)) (sym e) ∙ contiguous-at 0 0 ws i here
      ∙ ap (λ n. Some (n, get_or ws i 0)) left ∙ ap (λ n. Some (l, n)) (sym we))

  -- an index past the rows has no entry
  pub stored-no_entry : (i : ℕ) → length lefts ≤ i → None ≡ entry_of nat_eq (contiguous_rows (weights_of precision lefts)) i
  stored-no_entry i h =
      let ws : List ℕ = weights_of precision lefts in
      sym (contiguous-past 0 0 ws i (inr (omega (arith, length-gaps (2 ^ precision) lefts))))
