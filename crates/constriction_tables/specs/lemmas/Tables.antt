-- Tables: the rows in them, and the row of each quantile.
use Rattle.std.specs.Prelude.{◌≡◌, ℕ, ◌+◌, ◌-◌, ◌^◌, ◌<◌, true, false, nat_eq, List, [], ◌∷◌, ◌++◌, length, map, sum, replicate, All}
use Rattle.std.specs.Cmp.{IsEquivalence, nat_eq_equiv}
use Rattle.std.proofs.Common.{suc, zero, get_or, refl, append-nil, append_assoc, ap, sym, subst, ◌∙◌, arith, inl, inr, eq-eqb}
use Rattle.std.proofs.Math.ListN.{get_or-append}
use Rattle.std.proofs.lemmas.Bool.{cases_lt, ne_eqb}
use Rattle.std.proofs.lemmas.List.{get_or-append_right, get_or-replicate, length-append, length-map, length-replicate}
use Rattle.std.proofs.lemmas.List.Elements.{All-head, All-tail}
use Rattle.std.proofs.lemmas.List.Sums.{sum_by-cons}
use Rattle.constriction_model.specs.Acceptance.{IsAccepted}
use Rattle.constriction_model.specs.Rows.{Row, rows_from, rows_of, RowsTile, IsRowOf, symbols_of}
use Rattle.constriction_tables.specs.Table.{spread, rows_begun, rows_in_table, numbered, same_number, IsTable}

-- ---- rows and the places where they stand

-- places after the beginning of their row give no row
past : {S : Type 0} (q n : ℕ) (r : Row S) (t : List (Row S)) → r.left < q → rows_begun q (replicate n r ++ t) ≡ rows_begun (q + n) t
past q zero r t h = ap (λ k. rows_begun k t) (let e : q ≡ q + 0 = omega arith in e)
past q (suc n) r t h =
    let other : nat_eq r.left q ≡ false = ne_eqb r.left q (λ e. omega arith) in
    let rest : rows_begun (q + 1) (replicate n r ++ t) ≡ rows_begun (q + 1 + n) t = past (q + 1) n r t (omega arith) in
    let sums : q + 1 + n ≡ q + suc n = omega arith in
    rw other (rest ∙ ap (λ k. rows_begun k t) sums)

-- a row that stands at each of its places is given once
pub begun-row : {S : Type 0} (q n : ℕ) (r : Row S) (t : List (Row S)) → r.left ≡ q → 0 < n
    → rows_begun q (replicate n r ++ t) ≡ r ∷ rows_begun (q + n) t
begun-row q zero r t e h = absurd (omega arith)
begun-row q (suc n) r t e h =
    let here : nat_eq r.left q ≡ true = eq-eqb r.left q e in
    let rest : rows_begun (q + 1) (replicate n r ++ t) ≡ rows_begun (q + 1 + n) t = past (q + 1) n r t (omega arith) in
    let sums : q + 1 + n ≡ q + suc n = omega arith in
    rw here (ap (λ rs. r ∷ rs) (rest ∙ ap (λ k. rows_begun k t) sums))

-- rows that stand at each of their places are the rows of that table
pub begun-spread : {S : Type 0} (l : ℕ) (ss : List S) (ws : List ℕ) → length ss ≡ length ws → All (λ w. 0 < w) ws
    → rows_begun l (spread (rows_from l ss ws)) ≡ rows_from l ss ws
begun-spread l [] ws e p = refl
begun-spread l (s ∷ ss) [] e p = refl
begun-spread {S} l (s ∷ ss) (w ∷ ws) e p =
    let r : Row S = record { symbol = s; left = l; weight = w } in
    begun-row l w r (spread (rows_from (l + w) ss ws)) refl (All-head (λ v. 0 < v) w ws p)
    ∙ ap (λ rs. r ∷ rs) (begun-spread (l + w) ss ws (omega arith) (All-tail (λ v. 0 < v) w ws p))

-- a table has as many places as its rows have quantiles
pub length-spread : {S : Type 0} (rows : List (Row S)) → length (spread rows) ≡ sum (map (λ r. r.weight) rows)
length-spread [] = refl
length-spread (r ∷ rs) =
    length-append (replicate r.weight r) (spread rs)
    ∙ omega (arith, length-replicate r.weight r, length-spread rs, sum_by-cons (λ x. x) r.weight (map (λ r. r.weight) rs))

-- one more row stands after the others
pub spread-push : {S : Type 0} (rows : List (Row S)) (r : Row S) → spread (rows ++ r ∷ []) ≡ spread rows ++ replicate r.weight r
spread-push [] r = append-nil (replicate r.weight r)
spread-push (x ∷ rows) r =
    ap (λ t. replicate x.weight x ++ t) (spread-push rows r)
    ∙ sym (append_assoc (replicate x.weight x) (spread rows) (replicate r.weight r))

-- at each place stands the row that holds it
pub spread-at : {S : Type 0} (l : ℕ) (ss : List S) (ws : List ℕ) (i : ℕ) (d : Row S) → i < length (spread (rows_from l ss ws))
    → IsRowOf (rows_from l ss ws) (l + i) (get_or (spread (rows_from l ss ws)) i d)
spread-at l [] ws i d h = absurd (omega arith)
spread-at l (s ∷ ss) [] i d h = absurd (omega arith)
spread-at {S} l (s ∷ ss) (w ∷ ws) i d h =
    let r : Row S = record { symbol = s; left = l; weight = w } in
    let rest : List (Row S) = spread (rows_from (l + w) ss ws) in
    let count : length (replicate w r) ≡ w = length-replicate w r in
    elim (cases_lt i w) [
      | inl here ↦
          let at : get_or (replicate w r ++ rest) i d ≡ r =
          get_or-append (replicate w r) rest d i (omega arith) ∙ get_or-replicate w i r d here in
          let first : IsRowOf (r ∷ rows_from (l + w) ss ws) (l + i) r =
          record { among = (0, omega arith, refl); from = omega arith; to = omega arith } in
          subst (λ (x : Row S). IsRowOf (r ∷ rows_from (l + w) ss ws) (l + i) x) (sym at) first
      | inr past ↦
          let long = length-append (replicate w r) rest in
          let later = spread-at (l + w) ss ws (i - w) d (omega arith) in
          let at : get_or (replicate w r ++ rest) i d ≡ get_or rest (i - w) d =
          get_or-append_right (replicate w r) rest w i d count past in
          let moved : IsRowOf (r ∷ rows_from (l + w) ss ws) (l + i) (get_or rest (i - w) d) = record {
            among = (suc later.among.0, omega (arith, later.among.1), later.among.2);
            from = omega (arith, later.from);
            to = omega (arith, later.to);
          } in
          subst (λ (x : Row S). IsRowOf (r ∷ rows_from (l + w) ss ws) (l + i) x) (sym at) moved
    ]

-- ---- tables over symbols with numbers

module _ {S : Type 0} (number : S → ℕ) (same : (s t : S) → number s ≡ number t → s ≡ t) where
  -- rows with the same numbers are the same
  pub same-numbered : (xs ys : List (Row S)) → numbered number xs ≡ numbered number ys → xs ≡ ys
  same-numbered [] [] e = refl
  same-numbered [] (y ∷ ys) e = absurd (let long = ap length e in omega arith)
  same-numbered (x ∷ xs) [] e = absurd (let long = ap length e in omega arith)
  same-numbered (x ∷ xs) (y ∷ ys) e =
      let X : Row ℕ = record { symbol = number x.symbol; left = x.left; weight = x.weight } in
      let Y : Row ℕ = record { symbol = number y.symbol; left = y.left; weight = y.weight } in
      let all : ◌≡◌ {A = List (Row ℕ)} (X ∷ numbered number xs) (Y ∷ numbered number ys) = e in
      let first : X ≡ Y = cc in
      let rest : numbered number xs ≡ numbered number ys = cc in
      let symbol : x.symbol ≡ y.symbol = same x.symbol y.symbol (ap (λ (r : Row ℕ). r.symbol) first) in
      let left : x.left ≡ y.left = ap (λ (r : Row ℕ). r.left) first in
      let weight : x.weight ≡ y.weight = ap (λ (r : Row ℕ). r.weight) first in
      let row : x ≡ y =
      ap (λ s. record { symbol = s; left = x.left; weight = x.weight }) symbol
      ∙ ap (λ l. record { symbol = y.symbol; left = l; weight = x.weight }) left
      ∙ ap (λ w. record { symbol = y.symbol; left = y.left; weight = w }) weight in
      ap (λ r. r ∷ xs) row ∙ ap (λ rs. y ∷ rs) (same-numbered xs ys rest)

  -- the equality of symbols is one
  pub same_number-equivalence : IsEquivalence (same_number number)
  same_number-equivalence = record {
    refl = λ x. nat_eq_equiv.refl (number x);
    symm = λ x y. nat_eq_equiv.symm (number x) (number y);
    congr = λ x y z e. nat_eq_equiv.congr (number x) (number y) (number z) e;
  }

  module _ (bits precision : ℕ) (table : List (Row S)) (t : IsTable number bits precision table) where
    -- the rows of a table tile
    pub table-tiles : RowsTile bits precision (rows_in_table table)
    table-tiles = record { accepted = t.accepted; in_order = same-numbered _ _ t.in_order }

    -- they stand at each of their places
    pub table-spread : table ≡ spread (rows_in_table table)
    table-spread = same-numbered _ _ t.each

    -- at each place stands the row of the quantile
    pub table-row : (q : ℕ) (d : Row S) → q < length table → IsRowOf (rows_in_table table) q (get_or table q d)
    table-row q d h =
        let rows : List (Row S) = rows_in_table table in
        let all : rows ≡ rows_of (symbols_of rows) (map (λ r. r.weight) rows) = table-tiles.in_order in
        let is : table ≡ spread (rows_of (symbols_of rows) (map (λ r. r.weight) rows)) = table-spread ∙ ap spread all in
        let long = ap length is in
        let found = spread-at 0 (symbols_of rows) (map (λ r. r.weight) rows) q d (omega arith) in
        let at : get_or (spread (rows_of (symbols_of rows) (map (λ r. r.weight) rows))) q d ≡ get_or table q d =
        ap (λ xs. get_or xs q d) (sym is) in
        let here : IsRowOf (rows_of (symbols_of rows) (map (λ r. r.weight) rows)) q (get_or table q d) =
        subst (λ (x : Row S). IsRowOf (rows_of (symbols_of rows) (map (λ r. r.weight) rows)) q x) at
        (record { among = found.among; from = omega (arith, found.from); to = omega (arith, found.to) }) in
        subst (λ (rs : List (Row S)). IsRowOf rs q (get_or table q d)) (sym all) here

-- the table of rows that tile
pub table-of : {S : Type 0} (number : S → ℕ) (bits precision : ℕ) (table rows : List (Row S)) → RowsTile bits precision rows
    → table ≡ spread rows → (rows_in_table table ≡ rows) × IsTable number bits precision table × (length table ≡ 2 ^ precision)
table-of {S} number bits precision table rows tile is =
    let ss : List S = symbols_of rows in
    let ws : List ℕ = map (λ r. r.weight) rows in
    let many : length ss ≡ length ws = length-map rows (λ r. r.symbol) ∙ sym (length-map rows (λ r. r.weight)) in
    let same : rows_in_table table ≡ rows =
    ap rows_in_table is ∙ ap (λ rs. rows_in_table (spread rs)) tile.in_order ∙ begun-spread 0 ss ws many tile.accepted.tiles.positive
    ∙ sym tile.in_order in
    let long : length table ≡ 2 ^ precision = ap length is ∙ length-spread rows ∙ tile.accepted.tiles.total in (
      same,
      record {
        accepted = subst (λ (rs : List (Row S)). IsAccepted bits precision (map (λ r. r.weight) rs)) (sym same) tile.accepted;
        in_order = ap (numbered number) (same ∙ tile.in_order
            ∙ ap (λ rs. rows_of (symbols_of rs) (map (λ r. r.weight) rs)) (sym same));
        each = ap (numbered number) (is ∙ ap spread (sym same));
      },
      long,
    )
