-- The rows of weights in the order of the symbols' numbers.
use Rattle.std.specs.Prelude.{◌≡◌, ℕ, ◌+◌, ◌-◌, ◌^◌, ◌<◌, ◌≤◌, Bool, true, false, cond, nat_eq, nat_lt, List, [], ◌∷◌, ◌++◌, length, map, sum, take, All}
use Rattle.std.specs.List.{filter, list_any, range_with_len}
use Rattle.std.proofs.Common.{suc, zero, refl, add-one, append-nil, ap, sym, subst, ◌∙◌, arith, get_or}
use Rattle.std.proofs.Math.Pow.{pow-lt}
use Rattle.std.proofs.lemmas.Bool.{lt-ltb, ne_eqb}
use Rattle.std.proofs.lemmas.List.{length_push, length-take-le, map-append, take_more}
use Rattle.std.proofs.lemmas.List.Elements.{All-cons, All-head, All-nil, All-tail, filter-append}
use Rattle.std.proofs.lemmas.List.FromFn.{length-map-range_with_len}
use Rattle.std.proofs.lemmas.List.Sums.{sum_by-append, sum_by-cons}
use Rattle.constriction_model.specs.Acceptance.{IsAccepted}
use Rattle.constriction_model.specs.Rows.{Row, RowsTile, rows_from, rows_of, symbols_of}
use Rattle.constriction_stored_rows.proofs.ReadLemmas.{rows_from-push}
use Rattle.constriction_tables.specs.Table.{first_symbols, same_number, weighted_rows}

-- one more number
range-push : (a n : ℕ) → range_with_len a (n + 1) ≡ range_with_len a n ++ (a + n) ∷ []
range-push a zero = ap (λ k. k ∷ []) (let e : a ≡ a + 0 = omega arith in e)
range-push a (suc n) =
    ap (range_with_len a) (add-one (suc n)) ∙ ap (λ k. a ∷ range_with_len (a + 1) k) (sym (add-one n))
    ∙ ap (λ xs. a ∷ xs)
    (range-push (a + 1) n ∙ ap (λ k. range_with_len (a + 1) n ++ k ∷ []) (let e : a + 1 + n ≡ a + suc n = omega arith in e))

-- one more symbol
pub symbols-push : {S : Type 0} (symbol_of : ℕ → S) (n : ℕ)
    → first_symbols symbol_of (n + 1) ≡ first_symbols symbol_of n ++ symbol_of n ∷ []
symbols-push symbol_of n =
    ap (map symbol_of) (range-push 0 n) ∙ map-append symbol_of (range_with_len 0 n) ((0 + n) ∷ [])
    ∙ ap (λ k. first_symbols symbol_of n ++ symbol_of k ∷ []) (let e : 0 + n ≡ n = omega arith in e)

-- the rows of all symbols, of those of weight 0 too, with one more
rows-push : {S : Type 0} (symbol_of : ℕ → S) (ws : List ℕ) (w : ℕ)
    → rows_of (first_symbols symbol_of (length (ws ++ w ∷ []))) (ws ++ w ∷ [])
    ≡ rows_of (first_symbols symbol_of (length ws)) ws ++ record { symbol = symbol_of (length ws); left = sum ws; weight = w } ∷ []
rows-push {S} symbol_of ws w =
    let ss : List S = first_symbols symbol_of (length ws) in
    let many : length ss ≡ length ws = length-map-range_with_len symbol_of 0 (length ws) in
    let more : first_symbols symbol_of (length (ws ++ w ∷ [])) ≡ ss ++ symbol_of (length ws) ∷ [] =
    ap (first_symbols symbol_of) (length_push ws w) ∙ symbols-push symbol_of (length ws) in
    ap (λ xs. rows_of xs (ws ++ w ∷ [])) more ∙ rows_from-push 0 ss ws (symbol_of (length ws)) w many
    ∙ ap (λ n. rows_of ss ws ++ record { symbol = symbol_of (length ws); left = n; weight = w } ∷ [])
    (let e : 0 + sum ws ≡ sum ws = omega arith in e)

-- one more weight other than 0
pub weighted-push : {S : Type 0} (symbol_of : ℕ → S) (ws : List ℕ) (w : ℕ) → 0 < w
    → weighted_rows symbol_of (ws ++ w ∷ [])
    ≡ weighted_rows symbol_of ws ++ record { symbol = symbol_of (length ws); left = sum ws; weight = w } ∷ []
weighted-push {S} symbol_of ws w some =
    let r : Row S = record { symbol = symbol_of (length ws); left = sum ws; weight = w } in
    let kept : nat_lt 0 w ≡ true = lt-ltb 0 w some in
    let alone : filter (λ (x : Row S). nat_lt 0 x.weight) (r ∷ []) ≡ r ∷ [] = rw kept refl in
    ap (filter (λ (x : Row S). nat_lt 0 x.weight)) (rows-push symbol_of ws w)
    ∙ filter-append (λ (x : Row S). nat_lt 0 x.weight) (rows_of (first_symbols symbol_of (length ws)) ws) (r ∷ [])
    ∙ ap (λ xs. weighted_rows symbol_of ws ++ xs) alone

-- one more weight 0
pub weighted-skip : {S : Type 0} (symbol_of : ℕ → S) (ws : List ℕ) (w : ℕ) → w ≡ 0
    → weighted_rows symbol_of (ws ++ w ∷ []) ≡ weighted_rows symbol_of ws
weighted-skip {S} symbol_of ws w none =
    let r : Row S = record { symbol = symbol_of (length ws); left = sum ws; weight = w } in
    let dropped : nat_lt 0 w ≡ false = ap (nat_lt 0) none in
    let alone : filter (λ (x : Row S). nat_lt 0 x.weight) (r ∷ []) ≡ [] = rw dropped refl in
    ap (filter (λ (x : Row S). nat_lt 0 x.weight)) (rows-push symbol_of ws w)
    ∙ filter-append (λ (x : Row S). nat_lt 0 x.weight) (rows_of (first_symbols symbol_of (length ws)) ws) (r ∷ [])
    ∙ ap (λ xs. weighted_rows symbol_of ws ++ xs) alone ∙ append-nil (weighted_rows symbol_of ws)

module _ {S : Type 0} (number : S → ℕ) (symbol_of : ℕ → S) (back : (n : ℕ) → number (symbol_of n) ≡ n) where
  none-kept : (t : Bool) (r : Row S) (rows : List (Row S)) (s : S) → same_number number s r.symbol ≡ false
      → list_any (same_number number s) (symbols_of rows) ≡ false
      → list_any (same_number number s) (symbols_of (cond t (r ∷ rows) rows)) ≡ false
  none-kept true r rows s other none = rw (other, none) refl
  none-kept false r rows s other none = none

  absent-from : (a l : ℕ) (ws : List ℕ) (n : ℕ) → a + length ws ≤ n
      → list_any (same_number number (symbol_of n))
      (symbols_of (filter (λ r. nat_lt 0 r.weight) (rows_from l (map symbol_of (range_with_len a (length ws))) ws))) ≡ false
  absent-from a l [] n h = refl
  absent-from a l (w ∷ ws) n h =
      let other : nat_eq (number (symbol_of n)) (number (symbol_of a)) ≡ false =
      ne_eqb (number (symbol_of n)) (number (symbol_of a)) (λ e. omega (arith, e, back n, back a, h)) in
      none-kept (nat_lt 0 w) (record { symbol = symbol_of a; left = l; weight = w }) _ (symbol_of n) other
      (absent-from (a + 1) (l + w) ws n (omega arith))

  -- no row has the symbol of a number past the weights
  pub weighted-absent : (ws : List ℕ)
      → list_any (same_number number (symbol_of (length ws))) (symbols_of (weighted_rows symbol_of ws)) ≡ false
  weighted-absent ws = absent-from 0 0 ws (length ws) (omega arith)

module _ {S : Type 0} (symbol_of : ℕ → S) (ws : List ℕ) (i : ℕ) (h : i < length ws) where
  counted : length (take i ws) ≡ i
  counted = length-take-le i ws (omega arith)

  next : take (i + 1) ws ≡ take i ws ++ get_or ws i 0 ∷ []
  next = take_more ws i 0 h

  -- the rows after one more weight other than 0
  pub weighted-more : (s : S) (l : ℕ) → 0 < get_or ws i 0 → s ≡ symbol_of i → l ≡ sum (take i ws)
      → weighted_rows symbol_of (take i ws) ++ record { symbol = s; left = l; weight = get_or ws i 0 } ∷ []
      ≡ weighted_rows symbol_of (take (i + 1) ws)
  weighted-more s l some at is =
      let rows : List (Row S) = weighted_rows symbol_of (take i ws) in
      let w : ℕ = get_or ws i 0 in
      ap (λ t. rows ++ record { symbol = t; left = l; weight = w } ∷ []) (at ∙ ap symbol_of (sym counted))
      ∙ ap (λ n. rows ++ record { symbol = symbol_of (length (take i ws)); left = n; weight = w } ∷ []) is
      ∙ sym (weighted-push symbol_of (take i ws) w some) ∙ ap (weighted_rows symbol_of) (sym next)

  -- the rows after one more weight 0
  pub weighted-same : get_or ws i 0 ≡ 0 → weighted_rows symbol_of (take i ws) ≡ weighted_rows symbol_of (take (i + 1) ws)
  weighted-same none = sym (ap (weighted_rows symbol_of) next ∙ weighted-skip symbol_of (take i ws) (get_or ws i 0) none)

  -- no row so far has the next symbol
  pub weighted-new : (number : S → ℕ) → ((n : ℕ) → number (symbol_of n) ≡ n) → (s : S) → s ≡ symbol_of i
      → list_any (same_number number s) (symbols_of (weighted_rows symbol_of (take i ws))) ≡ false
  weighted-new number back s at =
      ap (λ t. list_any (same_number number t) (symbols_of (weighted_rows symbol_of (take i ws)))) (at ∙ ap symbol_of (sym counted))
      ∙ weighted-absent number symbol_of back (take i ws)

-- ---- the rows of weights that add up to all quantiles

-- numbers are below what their sum is below
pub below-sum : (b : ℕ) (ws : List ℕ) → sum ws < b → All (λ w. w < b) ws
below-sum b [] h = All-nil (λ w. w < b)
below-sum b (w ∷ ws) h =
    let more : sum (w ∷ ws) ≡ w + sum ws = sum_by-cons (λ x. x) w ws in
    All-cons (λ v. v < b) w ws (omega arith) (below-sum b ws (omega arith))

module _ {S : Type 0} where
  -- the rows of weight other than 0
  abbrev kept : List (Row S) → List (Row S)
  kept rows = filter (λ r. nat_lt 0 r.weight) rows

  kept-order : (l : ℕ) (ss : List S) (ws : List ℕ)
      → kept (rows_from l ss ws) ≡ rows_from l (symbols_of (kept (rows_from l ss ws))) (map (λ r. r.weight) (kept (rows_from l ss ws)))
  kept-order l [] ws = refl
  kept-order l (s ∷ ss) [] = refl
  kept-order l (s ∷ ss) (zero ∷ ws) =
      let same : l + 0 ≡ l = omega arith in
      subst (λ (k : ℕ). kept (rows_from (l + 0) ss ws)
      ≡ rows_from k (symbols_of (kept (rows_from (l + 0) ss ws))) (map (λ r. r.weight) (kept (rows_from (l + 0) ss ws)))) same
      (kept-order (l + 0) ss ws)
  kept-order l (s ∷ ss) (suc w ∷ ws) =
      let r : Row S = record { symbol = s; left = l; weight = suc w } in
      let stays : nat_lt 0 (suc w) ≡ true = lt-ltb 0 (suc w) (omega arith) in
      rw stays (ap (λ rs. r ∷ rs) (kept-order (l + suc w) ss ws))

  kept-sum : (l : ℕ) (ss : List S) (ws : List ℕ) → length ss ≡ length ws → sum (map (λ r. r.weight) (kept (rows_from l ss ws))) ≡ sum ws
  kept-sum l [] [] e = refl
  kept-sum l [] (w ∷ ws) e = absurd (omega arith)
  kept-sum l (s ∷ ss) [] e = refl
  kept-sum l (s ∷ ss) (zero ∷ ws) e = kept-sum (l + 0) ss ws (omega arith) ∙ omega (arith, sum_by-cons (λ x. x) 0 ws)
  kept-sum l (s ∷ ss) (suc w ∷ ws) e =
      let rest : List ℕ = map (λ r. r.weight) (kept (rows_from (l + suc w) ss ws)) in
      let later : sum rest ≡ sum ws = kept-sum (l + suc w) ss ws (omega arith) in
      let sums : sum (suc w ∷ rest) ≡ sum (suc w ∷ ws) =
      sum_by-cons (λ x. x) (suc w) rest ∙ omega (arith, later, sum_by-cons (λ x. x) (suc w) ws) in
      let stays : nat_lt 0 (suc w) ≡ true = lt-ltb 0 (suc w) (omega arith) in
      rw stays sums

  kept-positive : (l : ℕ) (ss : List S) (ws : List ℕ) → All (λ w. 0 < w) (map (λ r. r.weight) (kept (rows_from l ss ws)))
  kept-positive l [] ws = All-nil (λ w. 0 < w)
  kept-positive l (s ∷ ss) [] = All-nil (λ w. 0 < w)
  kept-positive l (s ∷ ss) (zero ∷ ws) = kept-positive (l + 0) ss ws
  kept-positive l (s ∷ ss) (suc w ∷ ws) =
      let stays : nat_lt 0 (suc w) ≡ true = lt-ltb 0 (suc w) (omega arith) in
      rw stays (All-cons (λ v. 0 < v) (suc w) (map (λ r. r.weight) (kept (rows_from (l + suc w) ss ws))) (omega arith)
      (kept-positive (l + suc w) ss ws))

-- if weights add up to all quantiles, their rows tile
pub weighted-tile : {S : Type 0} (symbol_of : ℕ → S) (bits precision : ℕ) (ws : List ℕ) → precision < bits → sum ws ≡ 2 ^ precision
    → RowsTile bits precision (weighted_rows symbol_of ws)
weighted-tile {S} symbol_of bits precision ws narrow total =
    let ss : List S = first_symbols symbol_of (length ws) in
    let many : length ss ≡ length ws = length-map-range_with_len symbol_of 0 (length ws) in
    let weights : List ℕ = map (λ r. r.weight) (weighted_rows symbol_of ws) in
    let all : sum weights ≡ 2 ^ precision = kept-sum 0 ss ws many ∙ total in
    let less : 2 ^ precision < 2 ^ bits = pow-lt narrow in
    record {
      accepted = record {
        tiles = record { positive = kept-positive 0 ss ws; total = all };
        fit = below-sum (2 ^ bits) weights (omega arith);
      };
      in_order = kept-order 0 ss ws;
    }

-- the rows after one more weight, in the parts that the row is made of
pub weighted-last : {S : Type 0} (symbol_of : ℕ → S) (ws : List ℕ) (w : ℕ) (s : S) (l v : ℕ) → 0 < w → s ≡ symbol_of (length ws)
    → l ≡ sum ws → v ≡ w
    → weighted_rows symbol_of ws ++ record { symbol = s; left = l; weight = v } ∷ [] ≡ weighted_rows symbol_of (ws ++ w ∷ [])
weighted-last {S} symbol_of ws w s l v some at is same =
    let rows : List (Row S) = weighted_rows symbol_of ws in
    ap (λ t. rows ++ record { symbol = t; left = l; weight = v } ∷ []) at
    ∙ ap (λ n. rows ++ record { symbol = symbol_of (length ws); left = n; weight = v } ∷ []) is
    ∙ ap (λ n. rows ++ record { symbol = symbol_of (length ws); left = sum ws; weight = n } ∷ []) same
    ∙ sym (weighted-push symbol_of ws w some)

-- if all weights are positive, each symbol has its row
pub weighted-all : {S : Type 0} (symbol_of : ℕ → S) (ws : List ℕ) → All (λ w. 0 < w) ws
    → weighted_rows symbol_of ws ≡ rows_of (first_symbols symbol_of (length ws)) ws
weighted-all {S} symbol_of ws positive = go 0 (first_symbols symbol_of (length ws)) ws positive
  where
    go : (l : ℕ) (ss : List S) (vs : List ℕ) → All (λ w. 0 < w) vs → kept (rows_from l ss vs) ≡ rows_from l ss vs
    go l [] vs p = refl
    go l (s ∷ ss) [] p = refl
    go l (s ∷ ss) (v ∷ vs) p =
        let r : Row S = record { symbol = s; left = l; weight = v } in
        let stays : nat_lt 0 v ≡ true = lt-ltb 0 v (All-head (λ w. 0 < w) v vs p) in
        rw stays (ap (λ rs. r ∷ rs) (go (l + v) ss vs (All-tail (λ w. 0 < w) v vs p)))

-- ---- which weights are accepted, if the last one is inferred or not

-- positive weights that add up to all quantiles are accepted
pub accepted-of : (bits precision : ℕ) (ws : List ℕ) → precision < bits → All (λ w. 0 < w) ws → sum ws ≡ 2 ^ precision
    → IsAccepted bits precision ws
accepted-of bits precision ws narrow positive total =
    let less : 2 ^ precision < 2 ^ bits = pow-lt narrow in
    record { tiles = record { positive = positive; total = total }; fit = below-sum (2 ^ bits) ws (omega arith) }

-- weights above 0, and another one
pub all-push : (ws : List ℕ) (w : ℕ) → All (λ v. 0 < v) ws → 0 < w → All (λ v. 0 < v) (ws ++ w ∷ [])
all-push [] w p h = All-cons (λ v. 0 < v) w [] h (All-nil (λ v. 0 < v))
all-push (x ∷ ws) w p h =
    All-cons (λ v. 0 < v) x (ws ++ w ∷ []) (All-head (λ v. 0 < v) x ws p) (all-push ws w (All-tail (λ v. 0 < v) x ws p) h)

-- if the last weight is inferred, all add up to all quantiles
pub inferred-total : (all : ℕ) (ws : List ℕ) → sum ws < all → sum (ws ++ (all - sum ws) ∷ []) ≡ all
inferred-total all ws h = omega (arith, sum_by-append (λ x. x) ws ((all - sum ws) ∷ []))
