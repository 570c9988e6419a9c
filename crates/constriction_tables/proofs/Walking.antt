-- Walking through the rows of a table.
use Rattle.std.specs.Prelude.{◌≡◌, ℕ, ◌+◌, ◌-◌, ◌<◌, ◌≤◌, Bool, true, false, cond, nat_eq, All}
use Rattle.std.specs.Prelude.{List, [], ◌∷◌, ◌++◌, drop, length, map, replicate}
use Rattle.std.proofs.Common.{suc, zero, get_or, refl, ap, sym, subst, ◌∙◌, arith}
use Rattle.std.proofs.Math.ListN.{get_or-append}
use Rattle.std.proofs.lemmas.List.{drop-drop, get_or-drop, get_or-map, get_or-replicate}
use Rattle.std.proofs.lemmas.List.{length-append, length-drop, length-map, length-replicate}
use Rattle.std.proofs.lemmas.List.Elements.{All-head, All-tail}
use Rattle.constriction_model.specs.Rows.{Row, rows_from, symbols_of}
use Rattle.constriction_tables.specs.Table.{numbered, rows_after, rows_begun, spread, StandsFrom}
use Rattle.constriction_tables.specs.lemmas.Tables.{begun-row, same-numbered}
use Rattle.constriction_tables.proofs.Reading.{row-made}

-- what follows so many elements
drop-front : {A : Type 0} (n : ℕ) (x : A) (ys : List A) → drop n (replicate n x ++ ys) ≡ ys
drop-front zero x ys = refl
drop-front (suc n) x ys = drop-front n x ys

module _ {S : Type 0} (number : S → ℕ) (same : (s t : S) → number s ≡ number t → s ≡ t) where
  -- what the first place says: its row is the first one, and the others stand after it
  pub record IsNext (q : ℕ) (places : List (Row S)) (r : Row S) : Type 0 where
    pub first : rows_begun q places ≡ r ∷ rows_begun (q + r.weight) (drop r.weight places)
    pub rest : StandsFrom number (q + r.weight) (drop r.weight places)
    pub fits : r.weight ≤ length places

  next-known : (q : ℕ) (places : List (Row S)) (r : Row S) (rs : List (Row S)) → StandsFrom number q places
      → rows_begun q places ≡ r ∷ rs → IsNext q places r
  next-known q places r rs t is =
      let rows : List (Row S) = rows_begun q places in
      let all : rows ≡ rows_from q (symbols_of rows) (map (λ x. x.weight) rows) = same-numbered number same _ _ t.in_order in
      let at : places ≡ spread rows = same-numbered number same _ _ t.each in
      let weights : All (λ w. 0 < w) (r.weight ∷ map (λ x. x.weight) rs) =
      subst (λ (xs : List (Row S)). All (λ w. 0 < w) (map (λ x. x.weight) xs)) is t.positive in
      let some : 0 < r.weight = All-head (λ w. 0 < w) r.weight (map (λ x. x.weight) rs) weights in
      let head : Row S = record { symbol = r.symbol; left = q; weight = r.weight } in
      let made : ◌≡◌ {A = List (Row S)} (r ∷ rs) (head ∷ rows_from (q + r.weight) (symbols_of rs) (map (λ x. x.weight) rs)) =
      sym is ∙ all ∙ ap (λ xs. rows_from q (symbols_of xs) (map (λ x. x.weight) xs)) is in
      let first_is : r ≡ head = cc in
      let rest_is : rs ≡ rows_from (q + r.weight) (symbols_of rs) (map (λ x. x.weight) rs) = cc in
      let left : r.left ≡ q = ap (λ (x : Row S). x.left) first_is in
      let split : places ≡ replicate r.weight r ++ spread rs = at ∙ ap spread is in
      let after : drop r.weight places ≡ spread rs = ap (drop r.weight) split ∙ drop-front r.weight r (spread rs) in
      let begun : ◌≡◌ {A = List (Row S)} (r ∷ rs) (r ∷ rows_begun (q + r.weight) (spread rs)) =
      sym is ∙ ap (rows_begun q) split ∙ begun-row q r.weight r (spread rs) left some in
      let later : rs ≡ rows_begun (q + r.weight) (spread rs) = cc in
      let later_rows : rows_begun (q + r.weight) (drop r.weight places) ≡ rs = ap (rows_begun (q + r.weight)) after ∙ sym later in
      let long = ap length split in
      record {
        first = is ∙ ap (λ xs. r ∷ xs) (sym later_rows);
        rest = record {
          positive = subst (λ (xs : List (Row S)). All (λ w. 0 < w) (map (λ x. x.weight) xs)) (sym later_rows)
              (All-tail (λ w. 0 < w) r.weight (map (λ x. x.weight) rs) weights);
          in_order = ap (numbered number) (later_rows ∙ rest_is
              ∙ ap (λ xs. rows_from (q + r.weight) (symbols_of xs) (map (λ x. x.weight) xs)) (sym later_rows));
          each = ap (numbered number) (after ∙ ap spread (sym later_rows));
        };
        fits = omega (arith, long, length-append (replicate r.weight r) (spread rs), length-replicate r.weight r);
      }

  first-place : (q : ℕ) (places : List (Row S)) (r d : Row S) (rs : List (Row S)) → StandsFrom number q places
      → rows_begun q places ≡ r ∷ rs → get_or places 0 d ≡ r
  first-place q places r d rs t is =
      let at : places ≡ replicate r.weight r ++ spread rs = same-numbered number same _ _ t.each ∙ ap spread is in
      let some : 0 < r.weight = All-head (λ w. 0 < w) r.weight (map (λ x. x.weight) rs)
      (subst (λ (xs : List (Row S)). All (λ w. 0 < w) (map (λ x. x.weight) xs)) is t.positive) in
      let count : length (replicate r.weight r) ≡ r.weight = length-replicate r.weight r in
      ap (λ xs. get_or xs 0 d) at ∙ get_or-append (replicate r.weight r) (spread rs) d 0 (omega arith)
      ∙ get_or-replicate r.weight 0 r d some

  -- the first place has the first row
  next-place : (q : ℕ) (places : List (Row S)) (d : Row S) → 0 < length places → StandsFrom number q places
      → IsNext q places (get_or places 0 d)
  next-place q places d h t = go (rows_begun q places) refl
    where
      go : (rows : List (Row S)) → rows_begun q places ≡ rows → IsNext q places (get_or places 0 d)
      go [] is =
          let none = ap length (same-numbered number same _ _ t.each ∙ ap spread is) in
          absurd (omega arith)
      go (r ∷ rs) is = subst (λ (x : Row S). IsNext q places x) (sym (first-place q places r d rs t is)) (next-known q places r rs t is)

  -- a step reads the row at a place, which is the first of those that are left, and goes on where it ends
  pub record IsStep {E : Type 0} (row_in : E → Row S) (items : List E) (from : ℕ) (e : E) : Type 0 where
    pub first : rows_after from (map row_in items) ≡ row_in e ∷ rows_after (from + (row_in e).weight) (map row_in items)
    pub rest : StandsFrom number (from + (row_in e).weight) (drop (from + (row_in e).weight) (map row_in items))
    pub within : from + (row_in e).weight ≤ length items

  -- the step from a place that begins a row
  pub step-at : {E : Type 0} (row_in : E → Row S) (items : List E) (from : ℕ) (e : E) → from < length items → e ≡ get_or items from e
      → StandsFrom number from (drop from (map row_in items)) → IsStep row_in items from e
  step-at {E} row_in items from e h is t =
      let table : List (Row S) = map row_in items in
      let long : length table ≡ length items = length-map items row_in in
      let many : length (drop from table) ≡ length table - from = length-drop from table in
      let here : get_or (drop from table) 0 (row_in e) ≡ row_in e =
      get_or-drop from table 0 (row_in e) ∙ ap (λ k. get_or table k (row_in e)) (let z : from + 0 ≡ from = omega arith in z)
      ∙ get_or-map row_in items from e (row_in e) h ∙ ap row_in (sym is) in
      let next : IsNext from (drop from table) (row_in e) =
      subst (λ (x : Row S). IsNext from (drop from table) x) here (next-place from (drop from table) (row_in e) (omega arith) t) in
      let on : drop (row_in e).weight (drop from table) ≡ drop (from + (row_in e).weight) table = drop-drop (row_in e).weight from table in
      record {
        first = next.first ∙ ap (λ xs. row_in e ∷ rows_begun (from + (row_in e).weight) xs) on;
        rest = subst (λ (xs : List (Row S)). StandsFrom number (from + (row_in e).weight) xs) on next.rest;
        within = omega (arith, next.fits, long, many);
      }

  module _ {E : Type 0} (row_in : E → Row S) (items : List E) (from : ℕ) (e : E) (step : IsStep row_in items from e) (w : ℕ)
      (weight : w ≡ (row_in e).weight) where
    -- the same in the parts that are read from a word
    pub step-first : (s : S) (l v : ℕ) → s ≡ (row_in e).symbol → l ≡ (row_in e).left → v ≡ w
        → rows_after from (map row_in items) ≡ record { symbol = s; left = l; weight = v } ∷ rows_after (from + w) (map row_in items)
    step-first s l v es el ev =
        step.first ∙ ap (λ r. r ∷ rows_after (from + (row_in e).weight) (map row_in items)) (row-made (row_in e) s l v es el (ev ∙ weight))
        ∙ ap (λ k. record { symbol = s; left = l; weight = v } ∷ rows_after (from + k) (map row_in items)) (sym weight)

    -- the rows that are left after it
    pub step-rest : StandsFrom number (from + w) (drop (from + w) (map row_in items))
    step-rest = subst (λ (k : ℕ). StandsFrom number (from + k) (drop (from + k) (map row_in items))) (sym weight) step.rest

-- no more rows begin than there are places
pub begun-few : {S : Type 0} (q : ℕ) (places : List (Row S)) → length (rows_begun q places) ≤ length places
begun-few q [] = omega arith
begun-few {S} q (r ∷ rs) = go (nat_eq r.left q) (begun-few (q + 1) rs)
  where
    go : (here : Bool) → length (rows_begun (q + 1) rs) ≤ length rs
        → length (cond here (r ∷ rows_begun (q + 1) rs) (rows_begun (q + 1) rs)) ≤ length (r ∷ rs)
    go true few = omega (arith, few)
    go false few = omega (arith, few)
