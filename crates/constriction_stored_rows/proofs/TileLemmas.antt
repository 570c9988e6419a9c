-- Rows that tile, and the search for one of them.
use Rattle.std.specs.Prelude.{⊤}
use Rattle.std.specs.List.Sorted.{IsStrictlyIncreasing}
use Rattle.std.proofs.Common.{◌≡◌, ℕ, ◌+◌, ◌^◌, ◌<◌, List, length, get_or, map, sym, refl, ◌∙◌, arith}
use Rattle.std.proofs.lemmas.List.{length-map}
use Rattle.constriction_model.specs.Probe.{IsSearchable, IsLastAtMost, IsRowIndexOf}
use Rattle.constriction_model.specs.private.Searching.{TellsRows}
use Rattle.constriction_model.specs.Rows.{Row, RowsTile, contiguous_rows}
use Rattle.constriction_stored_rows.specs.Stored.{IsStored, IsCdf, lefts_in, weights_of}
use Rattle.constriction_stored_rows.specs.lemmas.Stored.{stored-row, stored-of_rows}
use Rattle.constriction_stored_rows.specs.lemmas.StoredRows.{stored-tiles}
use Rattle.constriction_stored_rows.specs.lemmas.SymbolRows.{symbol-row_at}
use Rattle.constriction_stored_rows.proofs.ProbeLemmas.{stored-increases, stored-lefts, stored-searchable, symbol-tells, symbol-found}

-- rows that tile: the row at an index
pub record IsTile {S : Type 0} (precision : ℕ) (rows : List (Row S)) (i : ℕ) (r : Row S) : Type 0 where
  pub left : r.left ≡ get_or (map (λ r. r.left) rows) i 0
  pub positive : 0 < r.weight
  pub next : i + 1 < length rows → get_or (map (λ r. r.left) rows) (i + 1) 0 ≡ r.left + r.weight
  pub last : i + 1 ≡ length rows → r.left + r.weight ≡ 2 ^ precision

module _ {S : Type 0} (bits precision : ℕ) (rows : List (Row S)) (t : RowsTile bits precision rows) where
  pub tiles-stored : IsStored bits precision (map (λ r. r.left) rows)
  tiles-stored = (stored-of_rows bits precision rows t).0

  -- there are as many left cumulatives as rows
  pub tiles-many : length (map (λ r. r.left) rows) ≡ length rows
  tiles-many = length-map rows (λ r. r.left)

  tiles-long : length (map (λ r. r.symbol) rows) ≡ length (map (λ r. r.left) rows)
  tiles-long = length-map rows (λ r. r.symbol) ∙ sym tiles-many

  -- the left cumulatives of rows that tile increase
  pub tiles-increase : IsStrictlyIncreasing (map (λ r. r.left) rows)
  tiles-increase = stored-increases bits precision (map (λ r. r.left) rows) tiles-stored

  -- the row at an index begins where the one before it ends
  pub tile-at : (i : ℕ) (d : Row S) → i < length rows → IsTile precision rows i (get_or rows i d)
  tile-at i d h =
      let lefts : List ℕ = map (λ r. r.left) rows in
      let here : i < length lefts = omega (arith, tiles-many) in
      let row = stored-row bits precision lefts i tiles-stored here in
      let is = rw ((stored-of_rows bits precision rows t).1) at
      (symbol-row_at bits precision (map (λ r. r.symbol) rows) lefts tiles-stored tiles-long i d here) in
      rw is (record {
        left = refl;
        positive = row.positive;
        next = λ g. row.next (omega (arith, tiles-many));
        last = λ g. row.last (omega (arith, tiles-many));
      })

  -- the row of a quantile is at the index of the greatest left cumulative that is at most the quantile
  pub tiles-found : (q i : ℕ) → q < 2 ^ precision → IsLastAtMost (map (λ r. r.left) rows) q i → IsRowIndexOf rows q i
  tiles-found q i below f =
      rw ((stored-of_rows bits precision rows t).1) at
      (symbol-found bits precision (map (λ r. r.symbol) rows) (map (λ r. r.left) rows) tiles-stored tiles-long q i below f)

  -- a probe of all rows
  pub tiles-probed : (known : List ℕ) → known ≡ map (λ r. r.left) rows
      → TellsRows rows (λ _. ⊤) 0 known
      × ((q : ℕ) → IsSearchable known q)
      × ((q i : ℕ) → q < 2 ^ precision → IsLastAtMost known q i → IsRowIndexOf rows q (0 + i))
  tiles-probed known e = rw e (
    rw ((stored-of_rows bits precision rows t).1) at
        (symbol-tells bits precision (map (λ r. r.symbol) rows) (map (λ r. r.left) rows) tiles-stored tiles-long),
    stored-searchable bits precision (map (λ r. r.left) rows) tiles-stored,
    (λ q i below f. let same : 0 + i ≡ i = omega arith in rw same (tiles-found q i below f)),
  )

  -- the left cumulatives that a table of slots is made from
  pub tiles-lefts : (lefts : List ℕ) → lefts ≡ map (λ r. r.left) rows
      → IsSearchable lefts 0 × ((i : ℕ) → i < length lefts → get_or lefts i 0 < 2 ^ precision)
  tiles-lefts lefts e = rw e (
    stored-searchable bits precision (map (λ r. r.left) rows) tiles-stored 0,
    (λ i h. let row = stored-row bits precision (map (λ r. r.left) rows) i tiles-stored h in omega (arith, row.positive, row.within)),
  )

-- the same for a stored cdf that lends its left cumulatives
module _ (bits precision : ℕ) (cdf lefts : List ℕ) (t : IsCdf bits precision cdf) (e : lefts ≡ lefts_in cdf) where
  -- the left cumulatives of a cdf are those of its rows
  pub cdf-lefts : lefts ≡ map (λ r. r.left) (contiguous_rows (weights_of precision (lefts_in cdf)))
  cdf-lefts = e ∙ sym (stored-lefts bits precision (lefts_in cdf) t.stored)

  -- a probe of a cdf finds the row of a quantile
  pub cdf-probed : TellsRows (contiguous_rows (weights_of precision (lefts_in cdf))) (λ _. ⊤) 0 lefts
      × ((q : ℕ) → IsSearchable lefts q)
      × ((q i : ℕ) → q < 2 ^ precision → IsLastAtMost lefts q i
      → IsRowIndexOf (contiguous_rows (weights_of precision (lefts_in cdf))) q (0 + i))
  cdf-probed =
      tiles-probed bits precision (contiguous_rows (weights_of precision (lefts_in cdf)))
      (stored-tiles bits precision (lefts_in cdf) t.stored) lefts cdf-lefts
