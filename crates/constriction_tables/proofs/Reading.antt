-- What is read from a table.
use Rattle.std.specs.Prelude.{◌≡◌, ℕ, ◌<◌, List, length, map}
use Rattle.std.proofs.Common.{get_or, ap, sym, subst, ◌∙◌, arith}
use Rattle.std.proofs.lemmas.List.{get_or-map, length-map}
use Rattle.constriction_model.specs.Rows.{Row, IsRowOf}
use Rattle.constriction_tables.specs.Table.{IsTable, rows_in_table}
use Rattle.constriction_tables.specs.lemmas.Tables.{table-row}

-- the word at a quantile has the row that holds it
pub read-row : {S E : Type 0} (number : S → ℕ) (same : (s t : S) → number s ≡ number t → s ≡ t) (row_in : E → Row S) (bits precision : ℕ)
    (items : List E) → IsTable number bits precision (map row_in items) → (q : ℕ) (e : E) → q < length items → e ≡ get_or items q e
    → IsRowOf (rows_in_table (map row_in items)) q (row_in e)
read-row {S} number same row_in bits precision items t q e h is =
    let short : q < length (map row_in items) = omega (arith, length-map items row_in) in
    let at : get_or (map row_in items) q (row_in e) ≡ row_in e = get_or-map row_in items q e (row_in e) h ∙ ap row_in (sym is) in
    subst (λ (r : Row S). IsRowOf (rows_in_table (map row_in items)) q r) at
    (table-row number same bits precision (map row_in items) t q (row_in e) short)

-- a row is its three parts
pub row-made : {S : Type 0} (r : Row S) (s : S) (l w : ℕ) → s ≡ r.symbol → l ≡ r.left → w ≡ r.weight
    → r ≡ record { symbol = s; left = l; weight = w }
row-made r s l w es el ew =
    ap (λ x. record { symbol = x; left = r.left; weight = r.weight }) (sym es)
    ∙ ap (λ x. record { symbol = s; left = x; weight = r.weight }) (sym el)
    ∙ ap (λ x. record { symbol = s; left = l; weight = x }) (sym ew)

-- the parts of the word at a quantile are the row that holds it
pub read-parts : {S E : Type 0} (number : S → ℕ) (same : (s t : S) → number s ≡ number t → s ≡ t) (row_in : E → Row S) (bits precision : ℕ)
    (items : List E) → IsTable number bits precision (map row_in items) → (q : ℕ) (e : E) → q < length items → e ≡ get_or items q e
    → (s : S) (l w : ℕ) → s ≡ (row_in e).symbol → l ≡ (row_in e).left → w ≡ (row_in e).weight
    → IsRowOf (rows_in_table (map row_in items)) q (record { symbol = s; left = l; weight = w })
read-parts {S} number same row_in bits precision items t q e h is s l w es el ew =
    subst (λ (r : Row S). IsRowOf (rows_in_table (map row_in items)) q r) (row-made (row_in e) s l w es el ew)
    (read-row number same row_in bits precision items t q e h is)
