-- Searching a stored list.
use Rattle.std.specs.Prelude.{⊤}
use Rattle.std.proofs.Common.{◌≡◌, ℕ, ◌+◌, ◌^◌, ◌<◌, List, length, get_or, map, sym, refl, ◌∙◌, arith}
use Rattle.std.proofs.lemmas.List.{get_or_default}
use Rattle.std.specs.List.Sorted.{IsStrictlyIncreasing}
use Rattle.constriction_model.specs.Rows.{rows_of, contiguous_rows}
use Rattle.constriction_stored_rows.specs.Stored.{IsStored, weights_of}
use Rattle.constriction_stored_rows.specs.lemmas.Stored.{stored-row, stored-some, stored-first, lefts-rows_from, take-length}
use Rattle.constriction_stored_rows.specs.lemmas.StoredRows.{symbols, symbols-long}
use Rattle.constriction_stored_rows.specs.lemmas.SymbolRows.{symbols-many, symbol-rows_many, symbol-row_at, symbol-row_of}
use Rattle.constriction_model.specs.Probe.{IsRowIndexOf}
use Rattle.constriction_model.specs.private.Searching.{TellsRows}
use Rattle.constriction_model.specs.Probe.{IsSearchable, IsLastAtMost}

module _ (bits precision : ℕ) (lefts : List ℕ) (t : IsStored bits precision lefts) where
  -- stored left cumulatives increase
  pub stored-increases : IsStrictlyIncreasing lefts
  stored-increases = λ k h. let row = stored-row bits precision lefts k t (omega arith) in omega (arith, row.next h, row.positive)

  -- they can be searched for any quantile
  pub stored-searchable : (q : ℕ) → IsSearchable lefts q
  stored-searchable q = record {
    some = stored-some bits precision lefts t;
    increases = stored-increases;
    begins = omega (arith, stored-first bits precision lefts t);
  }

-- a probe of all rows, with any symbols
module _ {Symbol : Type 0} (bits precision : ℕ) (ss : List Symbol) (lefts : List ℕ) (t : IsStored bits precision lefts)
    (long : length ss ≡ length lefts) where
  -- the rows of symbols and stored cumulatives have these cumulatives
  pub symbol-lefts : map (λ r. r.left) (rows_of ss (weights_of precision lefts)) ≡ lefts
  symbol-lefts =
      lefts-rows_from 0 ss (weights_of precision lefts) (symbols-many bits precision ss lefts t long) ∙ sym t.in_order

  -- it covers them
  pub symbol-tells : TellsRows (rows_of ss (weights_of precision lefts)) (λ _. ⊤) 0 lefts
  symbol-tells =
      let many = symbol-rows_many bits precision ss lefts t long in
      record {
        exactly = λ i r h. ((λ _. (omega (arith, h, many), omega (arith, h, many))), (λ _. tt));
        within = omega (arith, many);
        in_order = sym (rw symbol-lefts (take-length lefts));
      }

  -- the greatest index whose cumulative is at most a quantile is the index of its row
  pub symbol-found : (q i : ℕ) → q < 2 ^ precision → IsLastAtMost lefts q i → IsRowIndexOf (rows_of ss (weights_of precision lefts)) q i
  symbol-found q i below f = record {
    in_bounds = omega (arith, f.in_bounds, symbol-rows_many bits precision ss lefts t long);
    row = λ r. rw (symbol-row_at bits precision ss lefts t long i r f.in_bounds)
        (symbol-row_of bits precision ss lefts t long q i _ _ (get_or ss i r.symbol) f.in_bounds
        (get_or_default ss i r.symbol (get_or ss i r.symbol) (omega (arith, f.in_bounds, long))) refl refl f.at_most
        (λ h. f.last (i + 1) (omega arith) h) below);
  }

-- the same for a contiguous model
pub stored-lefts : (bits precision : ℕ) (lefts : List ℕ) → IsStored bits precision lefts
    → map (λ r. r.left) (contiguous_rows (weights_of precision lefts)) ≡ lefts
stored-lefts bits precision lefts t =
    symbol-lefts bits precision (symbols bits precision lefts t) lefts t (symbols-long bits precision lefts t)
