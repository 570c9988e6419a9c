-- The row of a quantile is the first one that holds it.
use Rattle.std.proofs.Common.{suc, zero, refl, subst, ◌≡◌, ℕ, ◌+◌, ◌^◌, ◌<◌, ◌≤◌, Bool, true, false, ◌&&◌, cond, List, [], ◌∷◌, Option, Some, None, ap, sym, ◌∙◌, length, get_or, sum, arith, nat_le, nat_lt, find, map, IsSome, inl, inr, ◌↔◌}
use Rattle.std.proofs.lemmas.Bool.{ltb-true, leb-true, lt-ltb, le-leb, cases_lt}
use Rattle.std.proofs.lemmas.List.{length-map}
use Rattle.std.proofs.lemmas.List.Sums.{sum_by-cons}
use Rattle.constriction_model.specs.Rows.{Row, RowsTile, IsRowOf, rows_from}
use Rattle.constriction_model.specs.Scanning.{holds}

-- no row begins before the first
begins_after : {S : Type 0} (left : ℕ) (symbols : List S) (weights : List ℕ) (r : Row S) (k : ℕ)
    → k < length (rows_from left symbols weights)
    → get_or (rows_from left symbols weights) k r ≡ r → left ≤ r.left
begins_after {S = S} left [] weights r k h e = absurd (omega arith)
begins_after {S = S} left (s ∷ ss) [] r k h e = absurd (omega arith)
begins_after {S = S} left (s ∷ ss) (w ∷ ws) r zero h e = omega (arith, ap (λ (x : Row S). x.left) e)
begins_after {S = S} left (s ∷ ss) (w ∷ ws) r (suc k) h e = omega (arith, begins_after (left + w) ss ws r k (omega arith) e)

holds_it : {S : Type 0} (q : ℕ) (r : Row S) → r.left ≤ q → q < r.left + r.weight → holds q r ≡ true
holds_it q r from to = rw (le-leb r.left q from, lt-ltb q (r.left + r.weight) to) refl

holds_below : {S : Type 0} (q : ℕ) (r : Row S) (a b : Bool) → nat_le r.left q ≡ a → nat_lt q (r.left + r.weight) ≡ b
    → (a && b) ≡ true → q < r.left + r.weight
holds_below q r true true e f t = ltb-true q (r.left + r.weight) f
holds_below q r true false e f t = absurd (cc)
holds_below q r false b e f t = absurd (cc)

-- a row that holds a quantile is the first one that holds it
find_at : {S : Type 0} (left : ℕ) (symbols : List S) (weights : List ℕ) (q : ℕ) (r : Row S) (k : ℕ)
    → k < length (rows_from left symbols weights)
    → get_or (rows_from left symbols weights) k r ≡ r → r.left ≤ q → q < r.left + r.weight
    → find (holds q) (rows_from left symbols weights) ≡ Some r
find_at {S = S} left [] weights q r k h e from to = absurd (omega arith)
find_at {S = S} left (s ∷ ss) [] q r k h e from to = absurd (omega arith)
find_at {S = S} left (s ∷ ss) (w ∷ ws) q r zero h e from to =
    let first : Row S = record { symbol = s; left = left; weight = w } in
    let here : holds q first ≡ true = ap (holds q) e ∙ holds_it q r from to in
    rw here (ap Some e)
find_at {S = S} left (s ∷ ss) (w ∷ ws) q r (suc k) h e from to =
    let first : Row S = record { symbol = s; left = left; weight = w } in
    let later = find_at (left + w) ss ws q r k (omega arith) e from to in
    let begins = begins_after (left + w) ss ws r k (omega arith) e in
    passed_over (holds q first) (find (holds q) (rows_from (left + w) ss ws)) first r refl
    (λ t. omega (arith, holds_below q first (nat_le left q) (nat_lt q (left + w)) refl refl t)) later
  where
    passed_over : {S : Type 0} (b : Bool) (rest : Option (Row S)) (first r : Row S) → b ≡ b → (b ≡ true → ⊥) → rest ≡ Some r
        → cond b (Some first) rest ≡ Some r
    passed_over true rest first r same never e = absurd (never refl)
    passed_over false rest first r same never e = e

-- among rows that tile, the row of a quantile is the one that is found
pub find_row : {S : Type 0} (bits precision : ℕ) (rows : List (Row S)) (q : ℕ) (r : Row S) → RowsTile bits precision rows
    → IsRowOf rows q r → find (holds q) rows ≡ Some r
find_row {S = S} bits precision rows q r tile is =
    let symbols = map (λ (x : Row S). x.symbol) rows in
    let weights = map (λ (x : Row S). x.weight) rows in
    let k = is.among.0 in
    let within : k < length (rows_from 0 symbols weights) = subst (λ (xs : List (Row S)). k < length xs) tile.in_order is.among.1 in
    let here : get_or (rows_from 0 symbols weights) k r ≡ r = subst (λ (xs : List (Row S)). get_or xs k r ≡ r)
    tile.in_order is.among.2 in
    subst (λ (xs : List (Row S)). find (holds q) xs ≡ Some r) (sym tile.in_order)
    (find_at 0 symbols weights q r k within here is.from is.to)

holds_from : {S : Type 0} (q : ℕ) (r : Row S) (a b : Bool) → nat_le r.left q ≡ a → nat_lt q (r.left + r.weight) ≡ b
    → (a && b) ≡ true → r.left ≤ q
holds_from q r true b e f t = leb-true r.left q e
holds_from q r false b e f t = absurd (cc)

at_first : {S : Type 0} (q : ℕ) (x : Row S) (xs : List (Row S)) (r : Row S) → holds q x ≡ true → x ≡ r → IsRowOf (x ∷ xs) q r
at_first {S = S} q x xs r t same =
    let P : Row S → Type 0 = λ y. IsRowOf (x ∷ xs) q y in
    subst P same (record {
      among = (0, omega arith, refl);
      from = holds_from q x (nat_le x.left q) (nat_lt q (x.left + x.weight)) refl refl t;
      to = holds_below q x (nat_le x.left q) (nat_lt q (x.left + x.weight)) refl refl t;
    })

further_on : {S : Type 0} (q : ℕ) (x : Row S) (xs : List (Row S)) (r : Row S) → IsRowOf xs q r → IsRowOf (x ∷ xs) q r
further_on q x xs r is = record { among = (suc is.among.0, omega (arith, is.among.1), is.among.2); from = is.from; to = is.to }

here_or_further : {S C : Type 0} (b : Bool) (x r : Row S) (rest : Option (Row S)) → cond b (Some x) rest ≡ Some r
    → (b ≡ true → x ≡ r → C) → (rest ≡ Some r → C) → C
here_or_further {S = S} true x r rest e here further = let is : ◌≡◌ {A = Option (Row S)} (Some x) (Some r) = e in here refl (cc)
here_or_further {S = S} false x r rest e here further = further e

-- the row that is found is one of the rows, and holds the quantile
found_in : {S : Type 0} (q : ℕ) (rows : List (Row S)) (r : Row S) → find (holds q) rows ≡ Some r → IsRowOf rows q r
found_in {S = S} q [] r e = let is : ◌≡◌ {A = Option (Row S)} None (Some r) = e in absurd (cc)
found_in {S = S} q (x ∷ xs) r e =
    here_or_further (holds q x) x r (find (holds q) xs) e (λ t same. at_first q x xs r t same)
    (λ later. further_on q x xs r (found_in q xs r later))

-- the row that is found is the row of the quantile, and no other is
pub find_iff : {S : Type 0} (bits precision : ℕ) (rows : List (Row S)) (q : ℕ) (r : Row S) → RowsTile bits precision rows
    → (find (holds q) rows ≡ Some r) ↔ IsRowOf rows q r
find_iff bits precision rows q r tile = (found_in q rows r, find_row bits precision rows q r tile)

-- a row is found for each quantile that the weights reach
find_some : {S : Type 0} (left : ℕ) (symbols : List S) (weights : List ℕ) (q : ℕ) → length symbols ≡ length weights → left ≤ q
    → q < left + sum weights
    → IsSome (find (holds q) (rows_from left symbols weights))
find_some {S = S} left [] [] q e from to = absurd (omega arith)
find_some {S = S} left [] (w ∷ ws) q e from to = absurd (omega arith)
find_some {S = S} left (s ∷ ss) [] q e from to = absurd (omega arith)
find_some {S = S} left (s ∷ ss) (w ∷ ws) q e from to =
    elim (cases_lt q (left + w)) [
      | inl here ↦
          let first : Row S = record { symbol = s; left = left; weight = w } in
          rw (holds_it q first from here) refl
      | inr past ↦
          here_or_later (holds q (record { symbol = s; left = left; weight = w })) _ _
          (find_some (left + w) ss ws q (omega arith) past (omega (arith, sum_by-cons (λ x. x) w ws)))
    ]
  where
    here_or_later : {S : Type 0} (b : Bool) (x : Row S) (rest : Option (Row S)) → IsSome rest → IsSome (cond b (Some x) rest)
    here_or_later true x rest h = refl
    here_or_later false x rest h = h

-- a row is found for each quantile
pub find_each : {S : Type 0} (bits precision : ℕ) (rows : List (Row S)) (q : ℕ) → RowsTile bits precision rows → q < 2 ^ precision
    → IsSome (find (holds q) rows)
find_each {S = S} bits precision rows q tile below =
    let symbols = map (λ (x : Row S). x.symbol) rows in
    let weights = map (λ (x : Row S). x.weight) rows in
    let P : List (Row S) → Type 0 = λ xs. IsSome (find (holds q) xs) in
    let lengths : length symbols ≡ length weights =
    length-map rows (λ (x : Row S). x.symbol) ∙ sym (length-map rows (λ (x : Row S). x.weight)) in
    subst P (sym tile.in_order) (find_some 0 symbols weights q lengths (omega arith) (omega (arith, tile.accepted.tiles.total)))
