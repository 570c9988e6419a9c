-- Lists of rows.
use Rattle.std.specs.Prelude.{◌≡◌, ℕ, ◌+◌, ◌<◌, ◌≤◌, Bool, true, false, List, [], ◌∷◌, ◌⊎◌, length, map, reverse, take, sum, find, Option, Some, None, nat_eq}
use Rattle.std.specs.Option.{option_map, option_or}
use Rattle.std.specs.List.{range_with_len}
use Rattle.std.proofs.Common.{suc, zero, get_or, refl, ap, ◌∙◌, arith, cond, inl, inr, eq-eqb}
use Rattle.std.proofs.lemmas.Bool.{ne_eqb}
use Rattle.std.proofs.lemmas.List.{reverse-append}
use Rattle.std.proofs.lemmas.List.Folds.{find-append}
use Rattle.std.proofs.lemmas.List.FromFn.{length-range_with_len}
use Rattle.std.proofs.lemmas.List.Sums.{sum_by-cons}
use Rattle.constriction_model.specs.Rows.{Row, rows_from, contiguous_rows, entry_of}

-- the symbols 0, 1, .. of contiguous models
abbrev pub indices : ℕ → List ℕ
indices n = range_with_len 0 n

-- ---- the rows of symbols and weights

-- there are as many rows as weights
pub length-rows_from : {S : Type 0} (l : ℕ) (ss : List S) (ws : List ℕ) → length ss ≡ length ws
    → length (rows_from l ss ws) ≡ length ws
length-rows_from l [] [] e = refl
length-rows_from l [] (w ∷ ws) e = e
length-rows_from l (s ∷ ss) [] e = refl
length-rows_from l (s ∷ ss) (w ∷ ws) e = ap suc (length-rows_from (l + w) ss ws (omega arith))

-- there are as many contiguous rows as weights
pub length-rows : (ws : List ℕ) → length (contiguous_rows ws) ≡ length ws
length-rows ws = length-rows_from 0 (indices (length ws)) ws (length-range_with_len 0 (length ws))

-- the weights of the rows are the weights they are made of
pub weights-rows_from : {S : Type 0} (l : ℕ) (ss : List S) (ws : List ℕ) → length ss ≡ length ws
    → map (λ r. r.weight) (rows_from l ss ws) ≡ ws
weights-rows_from l [] [] e = refl
weights-rows_from l [] (w ∷ ws) e = absurd (omega arith)
weights-rows_from l (s ∷ ss) [] e = refl
weights-rows_from l (s ∷ ss) (w ∷ ws) e = ap (λ xs. w ∷ xs) (weights-rows_from (l + w) ss ws (omega arith))

-- their symbols are the symbols they are made of
pub symbols-rows_from : {S : Type 0} (l : ℕ) (ss : List S) (ws : List ℕ) → length ss ≡ length ws
    → map (λ r. r.symbol) (rows_from l ss ws) ≡ ss
symbols-rows_from l [] [] e = refl
symbols-rows_from l [] (w ∷ ws) e = refl
symbols-rows_from l (s ∷ ss) [] e = absurd (omega arith)
symbols-rows_from l (s ∷ ss) (w ∷ ws) e = ap (λ xs. s ∷ xs) (symbols-rows_from (l + w) ss ws (omega arith))

-- the row at an index begins where the weights before it end
pub rows_from-at : {S : Type 0} (l : ℕ) (ss : List S) (ws : List ℕ) (i : ℕ) (d : Row S) → length ss ≡ length ws → i < length ws
    → get_or (rows_from l ss ws) i d ≡ record { symbol = get_or ss i d.symbol; left = l + sum (take i ws); weight = get_or ws i 0 }
rows_from-at l ss [] i d e h = absurd (omega arith)
rows_from-at l [] (w ∷ ws) i d e h = absurd (omega arith)
rows_from-at l (s ∷ ss) (w ∷ ws) zero d e h =
    let left : l ≡ l + 0 = omega arith in
    ap (λ n. record { symbol = s; left = n; weight = w }) left
rows_from-at l (s ∷ ss) (w ∷ ws) (suc i) d e h =
    let left : l + w + sum (take i ws) ≡ l + sum (w ∷ take i ws) = omega (arith, sum_by-cons (λ x. x) w (take i ws)) in
    rows_from-at (l + w) ss ws i d (omega arith) (omega arith)
    ∙ ap (λ n. record { symbol = get_or ss i d.symbol; left = n; weight = get_or ws i 0 }) left

-- ---- the entry of a symbol

option_map-or : {X Y : Type 0} (f : X → Y) (a b : Option X)
    → option_map f (option_or a b) ≡ option_or (option_map f a) (option_map f b)
option_map-or f (Some x) b = refl
option_map-or f None b = refl

found-one : {X Y : Type 0} (f : X → Y) (t : Bool) (x : X) → option_map f (cond t (Some x) None) ≡ cond t (Some (f x)) None
found-one f true x = refl
found-one f false x = refl

module _ {S : Type 0} (eq : S → S → Bool) (s : S) where
  -- a row in front of others gives an entry only to a symbol that they give none
  pub entry_of-cons : (r : Row S) (rs : List (Row S))
      → entry_of eq (r ∷ rs) s ≡ option_or (entry_of eq rs s) (cond (eq r.symbol s) (Some (r.left, r.weight)) None)
  entry_of-cons r rs =
      ap (λ xs. option_map (λ x. (x.left, x.weight)) (find (λ x. eq x.symbol s) xs)) (reverse-append (r ∷ []) rs)
      ∙ ap (λ o. option_map (λ x. (x.left, x.weight)) o) (find-append (λ x. eq x.symbol s) (reverse rs) (r ∷ []))
      ∙ option_map-or (λ x. (x.left, x.weight)) (find (λ x. eq x.symbol s) (reverse rs)) (cond (eq r.symbol s) (Some r) None)
      ∙ ap (option_or (entry_of eq rs s)) (found-one (λ x. (x.left, x.weight)) (eq r.symbol s) r)

-- numbers below and past the symbols of contiguous rows have no entry
pub contiguous-past : (a l : ℕ) (ws : List ℕ) (s : ℕ) → ((s < a) ⊎ (a + length ws ≤ s))
    → entry_of nat_eq (rows_from l (range_with_len a (length ws)) ws) s ≡ None
contiguous-past a l [] s h = refl
contiguous-past a l (w ∷ ws) s h =
    let r : Row ℕ = record { symbol = a; left = l; weight = w } in
    let rs : List (Row ℕ) = rows_from (l + w) (range_with_len (a + 1) (length ws)) ws in
    let later : entry_of nat_eq rs s ≡ None =
    contiguous-past (a + 1) (l + w) ws s (elim h [ inl x ↦ inl (omega arith) | inr x ↦ inr (omega arith) ]) in
    let other : nat_eq a s ≡ false = ne_eqb a s (λ e. elim h [ inl x ↦ omega arith | inr x ↦ omega arith ]) in
    entry_of-cons nat_eq s r rs ∙ rw (later, other) refl

-- the entry of a contiguous model's symbol
pub contiguous-at : (a l : ℕ) (ws : List ℕ) (i : ℕ) → i < length ws
    → entry_of nat_eq (rows_from l (range_with_len a (length ws)) ws) (a + i) ≡ Some (l + sum (take i ws), get_or ws i 0)
contiguous-at a l [] i h = absurd (omega arith)
contiguous-at a l (w ∷ ws) zero h =
    let r : Row ℕ = record { symbol = a; left = l; weight = w } in
    let rs : List (Row ℕ) = rows_from (l + w) (range_with_len (a + 1) (length ws)) ws in
    let later : entry_of nat_eq rs (a + 0) ≡ None = contiguous-past (a + 1) (l + w) ws (a + 0) (inl (omega arith)) in
    let same : nat_eq a (a + 0) ≡ true = eq-eqb a (a + 0) (omega arith) in
    entry_of-cons nat_eq (a + 0) r rs ∙ rw (later, same) (ap (λ n. Some (n, w)) (omega arith))
contiguous-at a l (w ∷ ws) (suc i) h =
    let r : Row ℕ = record { symbol = a; left = l; weight = w } in
    let rs : List (Row ℕ) = rows_from (l + w) (range_with_len (a + 1) (length ws)) ws in
    let e : a + suc i ≡ (a + 1) + i = omega arith in
    let later : entry_of nat_eq rs (a + suc i) ≡ Some (l + w + sum (take i ws), get_or ws i 0) =
    ap (entry_of nat_eq rs) e ∙ contiguous-at (a + 1) (l + w) ws i (omega arith) in
    entry_of-cons nat_eq (a + suc i) r rs
    ∙ rw later (ap (λ n. Some (n, get_or ws i 0)) (omega (arith, sum_by-cons (λ x. x) w (take i ws))))
