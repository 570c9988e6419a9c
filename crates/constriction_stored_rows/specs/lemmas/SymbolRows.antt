-- The rows of symbols and of a stored list, for the models' laws.
use Rattle.std.specs.Prelude.{◌≡◌, ℕ, ◌+◌, ◌-◌, ◌^◌, ◌<◌, ◌≤◌, List, length, map, sum, take}
use Rattle.std.proofs.Common.{get_or, refl, ap, sym, ◌∙◌, arith, inl, inr}
use Rattle.std.proofs.lemmas.Bool.{cases_lt}
use Rattle.std.proofs.lemmas.List.{length-map, take-map}
use Rattle.constriction_model.specs.Rows.{Row, rows_of, RowsTile, IsRowOf}
use Rattle.constriction_stored_rows.specs.Stored.{IsStored, lefts_in, weights_of}
use Rattle.constriction_model.specs.lemmas.Rows.{length-rows_from, weights-rows_from, symbols-rows_from, rows_from-at}
use Rattle.constriction_stored_rows.specs.lemmas.Stored.{stored-row, length-gaps, lefts_from-at}
use Rattle.constriction_stored_rows.specs.Stored.{rows_paired}

module _ {Symbol : Type 0} (bits precision : ℕ) (ss : List Symbol) (lefts : List ℕ) (t : IsStored bits precision lefts)
    (long : length ss ≡ length lefts) where
  -- there are as many symbols as weights
  pub symbols-many : length ss ≡ length (weights_of precision lefts)
  symbols-many = long ∙ sym (length-gaps (2 ^ precision) lefts)

  -- there are as many rows as left cumulatives
  pub symbol-rows_many : length (rows_of ss (weights_of precision lefts)) ≡ length lefts
  symbol-rows_many = length-rows_from 0 ss (weights_of precision lefts) symbols-many ∙ length-gaps (2 ^ precision) lefts

  -- the row at an index
  pub symbol-row_at : (i : ℕ) (d : Row Symbol) → i < length lefts
      → get_or (rows_of ss (weights_of precision lefts)) i d
      ≡ record { symbol = get_or ss i d.symbol; left = get_or lefts i 0; weight = get_or (weights_of precision lefts) i 0 }
  symbol-row_at i d h =
      let ws : List ℕ = weights_of precision lefts in
      let here : i < length ws = omega (arith, length-gaps (2 ^ precision) lefts) in
      let left : 0 + sum (take i ws) ≡ get_or lefts i 0 = sym (ap (λ xs. get_or xs i 0) t.in_order ∙ lefts_from-at 0 ws i here) in
      rows_from-at 0 ss ws i d symbols-many here
      ∙ ap (λ l. record { symbol = get_or ss i d.symbol; left = l; weight = get_or ws i 0 }) left

  -- the rows of symbols and stored cumulatives tile
  pub symbol-rows_tile : RowsTile bits precision (rows_of ss (weights_of precision lefts))
  symbol-rows_tile =
      let ws : List ℕ = weights_of precision lefts in
      let weights = weights-rows_from 0 ss ws symbols-many in
      let symbols = symbols-rows_from 0 ss ws symbols-many in
      record { accepted = rw weights t.accepted; in_order = rw (weights, symbols) refl }

  -- the row with these three parts is at the index
  pub symbol-is_at : (i l w : ℕ) (s : Symbol) → i < length lefts → s ≡ get_or ss i s → l ≡ get_or lefts i 0
      → w ≡ get_or (weights_of precision lefts) i 0
      → get_or (rows_of ss (weights_of precision lefts)) i (record { symbol = s; left = l; weight = w })
      ≡ record { symbol = s; left = l; weight = w }
  symbol-is_at i l w s h se le we = symbol-row_at i _ h ∙ rw (← se, ← le, ← we) refl

  -- the row of a quantile, as a search finds it
  pub symbol-row_of : (q i l w : ℕ) (s : Symbol) → i < length lefts → s ≡ get_or ss i s → l ≡ get_or lefts i 0
      → w ≡ get_or (weights_of precision lefts) i 0
      → l ≤ q → (i + 1 < length lefts → q < get_or lefts (i + 1) 0) → q < 2 ^ precision
      → IsRowOf (rows_of ss (weights_of precision lefts)) q (record { symbol = s; left = l; weight = w })
  symbol-row_of q i l w s h se le we from to below =
      let row = stored-row bits precision lefts i t h in
      record {
        among = (i, omega (arith, symbol-rows_many), symbol-is_at i l w s h se le we);
        from = from;
        to = elim (cases_lt (i + 1) (length lefts)) [
          | inl more ↦ let next = to more in let is = row.next more in omega arith
          | inr none ↦ let is = row.last (omega arith) in omega arith
        ];
      }

-- the same for entries, which have a left cumulative and a symbol each
module _ {Symbol Word : Type 0} (whole : Word → ℕ) (bits precision : ℕ) (entries : List (Word × Symbol))
    (t : IsStored bits precision (map (λ x. whole x.0) entries)) where
  -- there are as many symbols as words
  pub paired-long : length (map (λ x. x.1) entries) ≡ length (map (λ x. whole x.0) entries)
  paired-long = length-map entries (λ x. x.1) ∙ sym (length-map entries (λ x. whole x.0))

  -- the rows of entries that store them tile
  pub paired-tiles : RowsTile bits precision (rows_paired whole precision entries)
  paired-tiles = symbol-rows_tile bits precision (map (λ x. x.1) entries) (map (λ x. whole x.0) entries) t paired-long

-- the left cumulatives of words
pub lefts-words : {Word : Type 0} (whole : Word → ℕ) (words : List Word)
    → map whole (take (length words - 1) words) ≡ lefts_in (map whole words)
lefts-words whole words =
    let long : length words - 1 ≡ length (map whole words) - 1 = omega (arith, length-map words whole) in
    sym (take-map whole (length words - 1) words) ∙ ap (λ n. take n (map whole words)) long
