-- Rows and entries, for the proofs of coders: the row of an entry, its quantiles, that a quantile has one row, and that the row of an
-- entry's quantile has this entry.
use Rattle.std.proofs.Common.{◌≡◌, ℕ, suc, zero, ◌+◌, ◌-◌, ◌^◌, ◌<◌, ◌≤◌, Bool, true, false, List, [], ◌∷◌, length, get_or, reverse, Option, Some, None, refl, ap, sym, ◌∙◌, subst, arith}
use Rattle.std.specs.Prelude.{All, Contains, find, sum, map, IfSome}
use Rattle.std.specs.Option.{option_map}
use Rattle.std.proofs.lemmas.List.{get_or-reverse, length-reverse}
use Rattle.std.proofs.lemmas.List.Elements.{All-contains}
use Rattle.std.proofs.lemmas.List.Sums.{sum_by-cons}
use Rattle.constriction_model.specs.Model.{LiesWithin, entry_in, row_of}
use Rattle.constriction_model.specs.Rows.{Row, rows_from, rows_of, RowsTile, IsRowOf, entry_of}

-- what a test finds is an element that passes it
found : {X : Type 0} (p : X → Bool) (xs : List X) (x : X) → find p xs ≡ Some x → Contains xs x × (p x ≡ true)
found {X = X} p [] x e = let is : ◌≡◌ {A = Option X} None (Some x) = e in absurd (cc)
found {X = X} p (y ∷ ys) x e = go (p y) refl (λ h. found p ys x h)
  where
    go : (b : Bool) → p y ≡ b → (find p ys ≡ Some x → Contains ys x × (p x ≡ true))
        → Contains (y ∷ ys) x × (p x ≡ true)
    go true t later =
        let is : ◌≡◌ {A = Option X} (Some y) (Some x) = rw t at e in
        let same : y ≡ x = cc in
        ((0, omega arith, same), ap p (sym same) ∙ t)
    go false t later = let rest = later (rw t at e) in ((suc rest.0.0, omega arith, rest.0.2), rest.1)

-- an element of the reversed list is an element of the list
pub unreversed : {X : Type 0} (xs : List X) (x : X) → Contains (reverse xs) x → Contains xs x
unreversed xs x h =
    let within : h.0 < length xs = omega (arith, length-reverse xs) in
    (length xs - 1 - h.0, omega arith, sym (get_or-reverse xs h.0 x within) ∙ h.2)

-- a row with this entry
pub record HasEntry {Symbol : Type 0} (eq : Symbol → Symbol
    → Bool) (rows : List (Row Symbol)) (s : Symbol) (left weight : ℕ) : Type 0 where
  pub row : Row Symbol
  pub among : Contains rows row
  pub left_is : row.left ≡ left
  pub weight_is : row.weight ≡ weight
  pub same : eq row.symbol s ≡ true

-- an entry is the entry of a row with an equal symbol
pub entry-row : {Symbol : Type 0} (eq : Symbol → Symbol
    → Bool) (rows : List (Row Symbol)) (s : Symbol) (left weight : ℕ)
    → entry_of eq rows s ≡ Some (left, weight) → HasEntry eq rows s left weight
entry-row {Symbol = Symbol} eq rows s left weight e = go (find (λ r. eq r.symbol s) (reverse rows)) refl
  where
    go : (o : Option (Row Symbol)) → find (λ r. eq r.symbol s) (reverse rows) ≡ o → HasEntry eq rows s left weight
    go None n = let is : ◌≡◌ {A = Option (ℕ × ℕ)} None (Some (left, weight)) = rw n at e in absurd (cc)
    go (Some r) f =
        let h = found (λ (x : Row Symbol). eq x.symbol s) (reverse rows) r f in
        let is : ◌≡◌ {A = Option (ℕ × ℕ)} (Some (r.left, r.weight)) (Some (left, weight)) = rw f at e in
        let same : ◌≡◌ {A = ℕ × ℕ} (r.left, r.weight) (left, weight) = cc in
        record {
          row = r;
          among = unreversed rows r h.0;
          left_is = ap (λ (p : ℕ × ℕ). p.0) same;
          weight_is = ap (λ (p : ℕ × ℕ). p.1) same;
          same = h.1;
        }

-- each of the rows that begin at l begins at l or above
pub above : {Symbol : Type 0} (l : ℕ) (ss : List Symbol) (ws : List ℕ) (i : ℕ) (d : Row Symbol)
    → i < length (rows_from l ss ws) → l ≤ (get_or (rows_from l ss ws) i d).left
above l [] ws i d h = absurd (omega arith)
above l (s ∷ ss) [] i d h = absurd (omega arith)
above l (s ∷ ss) (w ∷ ws) zero d h = omega arith
above l (s ∷ ss) (w ∷ ws) (suc i) d h = let rest = above (l + w) ss ws i d (omega arith) in omega arith

-- two rows that hold the same quantile are the same row
same-row : {Symbol : Type 0} (l : ℕ) (ss : List Symbol) (ws : List ℕ) (q i j : ℕ) (r t : Row Symbol)
    → i < length (rows_from l ss ws) → j < length (rows_from l ss ws)
    → get_or (rows_from l ss ws) i r ≡ r → get_or (rows_from l ss ws) j t ≡ t
    → r.left ≤ q → q < r.left + r.weight → t.left ≤ q → q < t.left + t.weight → r ≡ t
same-row l [] ws q i j r t hi hj ri tj rf rt tf tt' = absurd (omega arith)
same-row l (s ∷ ss) [] q i j r t hi hj ri tj rf rt tf tt' = absurd (omega arith)
same-row l (s ∷ ss) (w ∷ ws) q zero zero r t hi hj ri tj rf rt tf tt' = sym ri ∙ tj
same-row {Symbol = Symbol} l (s ∷ ss) (w ∷ ws) q zero (suc j) r t hi hj ri tj rf rt tf tt' =
    let past = above (l + w) ss ws j t (omega arith) in
    let begins : (get_or (rows_from (l + w) ss ws) j t).left ≡ t.left = ap (λ (x : Row Symbol). x.left) tj in
    let left : l ≡ r.left = ap (λ (x : Row Symbol). x.left) ri in
    let weight : w ≡ r.weight = ap (λ (x : Row Symbol). x.weight) ri in
    absurd (omega arith)
same-row {Symbol = Symbol} l (s ∷ ss) (w ∷ ws) q (suc i) zero r t hi hj ri tj rf rt tf tt' =
    let past = above (l + w) ss ws i r (omega arith) in
    let begins : (get_or (rows_from (l + w) ss ws) i r).left ≡ r.left = ap (λ (x : Row Symbol). x.left) ri in
    let left : l ≡ t.left = ap (λ (x : Row Symbol). x.left) tj in
    let weight : w ≡ t.weight = ap (λ (x : Row Symbol). x.weight) tj in
    absurd (omega arith)
same-row l (s ∷ ss) (w ∷ ws) q (suc i) (suc j) r t hi hj ri tj rf rt tf tt' =
    same-row (l + w) ss ws q i j r t (omega arith) (omega arith) ri tj rf rt tf tt'

-- each of the rows that begin at l has quantiles, all below t, if the weights are not 0 and reach at most t
within-from : {Symbol : Type 0} (t l : ℕ) (ss : List Symbol) (ws : List ℕ) (i : ℕ) (d : Row Symbol) → All (λ w. 0 < w) ws
    → l + sum ws ≤ t → i < length (rows_from l ss ws)
    → (0 < (get_or (rows_from l ss ws) i d).weight)
    × ((get_or (rows_from l ss ws) i d).left + (get_or (rows_from l ss ws) i d).weight ≤ t)
within-from t l [] ws i d p s h = absurd (omega arith)
within-from t l (x ∷ ss) [] i d p s h = absurd (omega arith)
within-from t l (x ∷ ss) (w ∷ ws) zero d p s h =
    (p 0 0 (omega arith), omega (arith, sum_by-cons (λ x. x) w ws))
within-from t l (x ∷ ss) (w ∷ ws) (suc i) d p s h =
    within-from t (l + w) ss ws i d (λ k e m. p (suc k) e (omega arith)) (omega (arith, sum_by-cons (λ x. x) w ws)) (omega arith)

-- each of the rows that tile has quantiles, all below 2 ^ precision
pub rows-within : {Symbol : Type 0} (bits precision : ℕ) (rows : List (Row Symbol)) → RowsTile bits precision rows
    → All (LiesWithin precision) rows
rows-within {Symbol = Symbol} bits precision rows tile =
    let all : All (LiesWithin precision) (rows_of (map (λ r. r.symbol) rows) (map (λ r. r.weight) rows)) =
    λ i d h. within-from (2 ^ precision) 0 _ _ i d tile.accepted.tiles.positive (omega (arith, tile.accepted.tiles.total)) h in
    subst (λ (xs : List (Row Symbol)). All (LiesWithin precision) xs) (sym tile.in_order) all

-- so has the row of a quantile
pub row-within : {Symbol : Type 0} (bits precision : ℕ) (rows : List (Row Symbol)) (q : ℕ) (r : Row Symbol)
    → RowsTile bits precision rows → IsRowOf rows q r → LiesWithin precision r
row-within bits precision rows q r tile h =
    All-contains (LiesWithin precision) rows r (rows-within bits precision rows tile) h.among

-- in rows that tile, a quantile has no two rows
pub one-row : {Symbol : Type 0} (bits precision : ℕ) (rows : List (Row Symbol)) (q : ℕ) (r t : Row Symbol)
    → RowsTile bits precision rows → IsRowOf rows q r → IsRowOf rows q t → r ≡ t
one-row {Symbol = Symbol} bits precision rows q r t tile a b =
    let ra : Contains (rows_of _ _) r = subst (λ (xs : List (Row Symbol)). Contains xs r) tile.in_order a.among in
    let tb : Contains (rows_of _ _) t = subst (λ (xs : List (Row Symbol)). Contains xs t) tile.in_order b.among in
    same-row 0 _ _ q ra.0 tb.0 r t ra.1 tb.1 ra.2 tb.2 a.from a.to b.from b.to

-- the row of a quantile of an entry has this entry, and its symbol is equal
pub entry-back : {Symbol : Type 0} (bits precision : ℕ) (eq : Symbol → Symbol → Bool) (rows : List (Row Symbol)) (s : Symbol)
    (left weight q : ℕ) (r : Row Symbol) → RowsTile bits precision rows → entry_of eq rows s ≡ Some (left, weight)
    → left ≤ q → q < left + weight → IsRowOf rows q r
    → (eq r.symbol s ≡ true) × (r.left ≡ left) × (r.weight ≡ weight)
entry-back {Symbol = Symbol} bits precision eq rows s left weight q r tile e from to found =
    let has = entry-row eq rows s left weight e in
    let of_entry : IsRowOf rows q has.row =
    record { among = has.among; from = omega (arith, has.left_is); to = omega (arith, has.left_is, has.weight_is) } in
    let same : r ≡ has.row = one-row bits precision rows q r has.row tile found of_entry in (
      ap (λ (x : Row Symbol). eq x.symbol s) same ∙ has.same,
      ap (λ (x : Row Symbol). x.left) same ∙ has.left_is,
      ap (λ (x : Row Symbol). x.weight) same ∙ has.weight_is,
    )

-- an entry has quantiles
pub entry-positive : {Symbol : Type 0} (precision : ℕ) (eq : Symbol → Symbol → Bool) (rows : List (Row Symbol)) (s : Symbol)
    (entry : ℕ × ℕ) → Some entry ≡ entry_of eq rows s → All (LiesWithin precision) rows → 0 < entry.1
entry-positive precision eq rows s entry e within =
    let has = entry-row eq rows s entry.0 entry.1 (sym e) in
    let lies = All-contains (LiesWithin precision) rows has.row within has.among in
    omega (arith, has.weight_is, lies.0)

-- the quantiles of an entry lie below 2 ^ precision
pub entry-within : {Symbol : Type 0} (precision : ℕ) (eq : Symbol → Symbol → Bool) (rows : List (Row Symbol)) (s : Symbol)
    (entry : ℕ × ℕ) → Some entry ≡ entry_of eq rows s → All (LiesWithin precision) rows → entry.0 + entry.1 ≤ 2 ^ precision
entry-within precision eq rows s entry e within =
    let has = entry-row eq rows s entry.0 entry.1 (sym e) in
    let lies = All-contains (LiesWithin precision) rows has.row within has.among in
    omega (arith, has.left_is, has.weight_is, lies.1)

-- a quantile of an entry lies below 2 ^ precision
pub entry-below : {Symbol : Type 0} (precision : ℕ) (eq : Symbol → Symbol
    → Bool) (rows : List (Row Symbol)) (s : Symbol)
    (left weight offset : ℕ) → entry_of eq rows s ≡ Some (left, weight) → All (LiesWithin precision) rows
    → offset < weight
    → left + offset < 2 ^ precision
entry-below precision eq rows s left weight offset e within less =
    let has = entry-row eq rows s left weight e in
    let lies = All-contains (LiesWithin precision) rows has.row within has.among in
    omega (arith, has.left_is, has.weight_is, lies.1)

-- words that stand for an entry give a row that has quantiles, all below 2 ^ precision
pub words-within : {Symbol Word Weight : Type 0} (precision : ℕ) (eq : Symbol → Symbol → Bool) (rows : List (Row Symbol)) (s : Symbol)
    (whole : Word → ℕ) (base : Weight → Word) (o : Option (Word × Weight)) → option_map (entry_in whole base) o ≡ entry_of eq rows s
    → All (LiesWithin precision) rows → IfSome o (λ x. LiesWithin precision (row_of whole base (s, x.0, x.1)))
words-within precision eq rows s whole base None e within = tt
words-within precision eq rows s whole base (Some x) e within = (
  entry-positive precision eq rows s (entry_in whole base x) e within,
  entry-within precision eq rows s (entry_in whole base x) e within,
)
