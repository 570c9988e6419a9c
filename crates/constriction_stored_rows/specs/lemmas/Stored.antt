-- What a stored list says of each of its rows.
use Rattle.std.proofs.Common.{◌≡◌, ℕ, suc, zero, ◌+◌, ◌-◌, ◌^◌, ◌<◌, ◌≤◌, List, [], ◌∷◌, length, get_or, take, map, ap, sym, refl, ◌∙◌, arith, sum}
use Rattle.std.proofs.lemmas.List.{length-map, get_or-map}
use Rattle.std.proofs.lemmas.Nat.{pow_pos}
use Rattle.std.proofs.lemmas.List.Elements.{All-get_or}
use Rattle.std.proofs.lemmas.List.Sums.{sum_by-cons, sum_by_more_le, sum_by_more}
use Rattle.constriction_model.specs.Acceptance.{IsAccepted}
use Rattle.constriction_model.specs.Rows.{Row, rows_from, RowsTile}
use Rattle.constriction_stored_rows.specs.Stored.{lefts_from, gaps, weights_of, IsStored}

-- there are as many differences as left cumulatives
pub length-gaps : (t : ℕ) (ls : List ℕ) → length (gaps t ls) ≡ length ls
length-gaps t [] = refl
length-gaps t (l ∷ []) = refl
length-gaps t (l ∷ (m ∷ ls)) = ap suc (length-gaps t (m ∷ ls))

-- a left cumulative is the sum of the weights before it
pub lefts_from-at : (l : ℕ) (ws : List ℕ) (i : ℕ) → i < length ws → get_or (lefts_from l ws) i 0 ≡ l + sum (take i ws)
lefts_from-at l [] i h = absurd (omega arith)
lefts_from-at l (w ∷ ws) zero h = omega arith
lefts_from-at l (w ∷ ws) (suc i) h =
    let rest : i < length ws = omega arith in
    lefts_from-at (l + w) ws i rest ∙ omega (arith, sum_by-cons (λ x. x) w (take i ws))

-- the left cumulatives give the weights back
pub gaps-lefts_from : (t l : ℕ) (ws : List ℕ) → l + sum ws ≡ t → gaps t (lefts_from l ws) ≡ ws
gaps-lefts_from t l [] e = refl
gaps-lefts_from t l (w ∷ []) e = ap (λ x. x ∷ []) (omega arith)
gaps-lefts_from t l (w ∷ (v ∷ ws)) e =
    let head : (l + w) - l ≡ w = omega arith in
    let tail : gaps t (lefts_from (l + w) (v ∷ ws)) ≡ v ∷ ws =
    gaps-lefts_from t (l + w) (v ∷ ws) (omega (arith, sum_by-cons (λ x. x) w (v ∷ ws))) in
    ap (λ x. x ∷ gaps t (lefts_from (l + w) (v ∷ ws))) head ∙ ap (λ xs. w ∷ xs) tail

-- a row: where it begins, how much it weighs, and where the next one begins
pub record IsRowAt (bits precision : ℕ) (lefts : List ℕ) (i w : ℕ) : Type 0 where
  pub weight : get_or (weights_of precision lefts) i 0 ≡ w
  pub positive : 0 < w
  pub fits : w < 2 ^ bits
  pub within : get_or lefts i 0 + w ≤ 2 ^ precision
  pub next : i + 1 < length lefts → get_or lefts (i + 1) 0 ≡ get_or lefts i 0 + w
  pub last : i + 1 ≡ length lefts → get_or lefts i 0 + w ≡ 2 ^ precision

-- as many elements as there are, are all
pub take-length : {A : Type 0} (ws : List A) → take (length ws) ws ≡ ws
take-length [] = refl
take-length (w ∷ ws) = ap (λ xs. w ∷ xs) (take-length ws)

-- the row at an index has the left cumulative and the weight there
pub stored-row : (bits precision : ℕ) (lefts : List ℕ) (i : ℕ) → IsStored bits precision lefts → i < length lefts
    → IsRowAt bits precision lefts i (get_or (weights_of precision lefts) i 0)
stored-row bits precision lefts i t h =
    let ws : List ℕ = weights_of precision lefts in
    let long : length ws ≡ length lefts = length-gaps (2 ^ precision) lefts in
    let here : i < length ws = omega arith in
    let left : get_or lefts i 0 ≡ sum (take i ws) = ap (λ xs. get_or xs i 0) t.in_order ∙ lefts_from-at 0 ws i here ∙ omega arith in
    let more : sum (take (i + 1) ws) ≡ sum (take i ws) + get_or ws i 0 = sum_by_more (λ x. x) ws i 0 here in
    record {
      weight = refl;
      positive = All-get_or (λ x. 0 < x) ws i 0 here t.accepted.tiles.positive;
      fits = All-get_or (λ x. x < 2 ^ bits) ws i 0 here t.accepted.fit;
      within = omega (arith, sum_by_more_le (λ x. x) ws i 0 here, t.accepted.tiles.total);
      next = λ g.
          let there : i + 1 < length ws = omega arith in
          ap (λ xs. get_or xs (i + 1) 0) t.in_order ∙ lefts_from-at 0 ws (i + 1) there ∙ omega arith;
      last = λ g.
          let end : i + 1 ≡ length ws = omega arith in
          let all : sum (take (i + 1) ws) ≡ 2 ^ precision =
          ap (λ n. sum (take n ws)) end ∙ ap sum (take-length ws) ∙ t.accepted.tiles.total in
          omega arith;
    }

-- some row is stored
pub stored-some : (bits precision : ℕ) (lefts : List ℕ) → IsStored bits precision lefts → 0 < length lefts
stored-some bits precision [] t = absurd (omega (arith, t.accepted.tiles.total, pow_pos precision))
stored-some bits precision (l ∷ ls) t = omega arith

-- the first row begins at 0
pub stored-first : (bits precision : ℕ) (lefts : List ℕ) → IsStored bits precision lefts → get_or lefts 0 0 ≡ 0
stored-first bits precision lefts t =
    let some : 0 < length (weights_of precision lefts) =
    omega (arith, length-gaps (2 ^ precision) lefts, stored-some bits precision lefts t) in
    ap (λ xs. get_or xs 0 0) t.in_order ∙ lefts_from-at 0 (weights_of precision lefts) 0 some

-- what `cdf[i]` reads, as a number
pub read-whole : {W : Type 0} (whole : W → ℕ) (xs : List W) (i : ℕ) (x : W) → i < length xs → x ≡ get_or xs i x
    → get_or (map whole xs) i 0 ≡ whole x
read-whole whole xs i x h e = get_or-map whole xs i x 0 h ∙ ap whole (sym e)

-- the left cumulatives of accepted weights are a stored list, and give the weights back
pub stored-of : (bits precision : ℕ) (lefts ws : List ℕ) → lefts ≡ lefts_from 0 ws → IsAccepted bits precision ws
    → IsStored bits precision lefts × (weights_of precision lefts ≡ ws)
stored-of bits precision lefts ws e a =
    let is : weights_of precision lefts ≡ ws =
    ap (gaps (2 ^ precision)) e ∙ gaps-lefts_from (2 ^ precision) 0 ws (omega (arith, a.tiles.total)) in
    (record { accepted = rw is a; in_order = rw is e }, is)

-- a row begins at the sum of the weights before it
pub lefts-rows_from : {S : Type 0} (l : ℕ) (ss : List S) (ws : List ℕ) → length ss ≡ length ws
    → map (λ r. r.left) (rows_from l ss ws) ≡ lefts_from l ws
lefts-rows_from l [] [] e = refl
lefts-rows_from l [] (w ∷ ws) e = absurd (omega arith)
lefts-rows_from l (s ∷ ss) [] e = refl
lefts-rows_from l (s ∷ ss) (w ∷ ws) e = ap (λ xs. l ∷ xs) (lefts-rows_from (l + w) ss ws (omega arith))

-- rows that tile are the rows of their symbols and of the weights that their left cumulatives give
pub stored-of_rows : {S : Type 0} (bits precision : ℕ) (rows : List (Row S)) → RowsTile bits precision rows
    → IsStored bits precision (map (λ r. r.left) rows)
    × (rows_from 0 (map (λ r. r.symbol) rows) (weights_of precision (map (λ r. r.left) rows)) ≡ rows)
stored-of_rows bits precision rows t =
    let ss = map (λ r. r.symbol) rows in
    let ws : List ℕ = map (λ r. r.weight) rows in
    let same : length ss ≡ length ws = length-map rows (λ r. r.symbol) ∙ sym (length-map rows (λ r. r.weight)) in
    let lefts : map (λ r. r.left) rows ≡ lefts_from 0 ws = ap (map (λ r. r.left)) t.in_order ∙ lefts-rows_from 0 ss ws same in
    let cdf = stored-of bits precision (map (λ r. r.left) rows) ws lefts t.accepted in
    (cdf.0, ap (rows_from 0 ss) cdf.1 ∙ sym t.in_order)
