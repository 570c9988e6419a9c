-- Symbols in increasing order, one neighbour after another.
use Rattle.std.specs.Prelude.{◌≡◌, ℕ, ◌+◌, ◌-◌, ◌<◌, ◌≤◌, Bool, true, false, List, [], ◌∷◌, length, map}
use Rattle.std.proofs.Common.{get_or, refl, ap, sym, ◌∙◌, arith, inl, inr}
use Rattle.std.specs.Cmp.{IsTotalOrder}
use Rattle.std.specs.List.{AllByRecursion, IsDistinct}
use Rattle.std.specs.List.Sorted.{IsStrictlySortedBy}
use Rattle.std.specs.Ordering.{is_eq, is_lt, eq_by_cmp}
use Rattle.std.specs.declared.cmp.Ordering.{Ordering}
use Rattle.std.specs.declared.cmp.Ordering.TheVariants.{Less, Equal, Greater}
use Rattle.std.proofs.lemmas.Bool.{cases_lt}
use Rattle.std.proofs.lemmas.List.{length-map, get_or-map}
use Rattle.std.proofs.lemmas.Map.Keys.{IsDistinct-from_sorted, Less-from_sorted, sorted_from_all_adjacent}

less-from : (o : Ordering) → is_lt o ≡ true → o ≡ Less
less-from Less h = refl
less-from Equal h = cc
less-from Greater h = cc

sorted-from_neighbours : {K : Type 0} {cmp : K → K → Ordering} → IsTotalOrder cmp → (ks : List K)
    → ((k : ℕ) (d : K) → k + 1 < length ks → cmp (get_or ks k d) (get_or ks (k + 1) d) ≡ Less) → IsStrictlySortedBy cmp ks
unfolding IsStrictlySortedBy
sorted-from_neighbours o [] all = tt
sorted-from_neighbours o (x ∷ xs) all = sorted_from_all_adjacent o (x ∷ xs) x (λ k h. all k x h)

module _ {Word Symbol : Type 0} (cmp : Symbol → Symbol → Ordering) (entries : List (Word × Symbol)) where
  -- each of the first n symbols is less than the next one
  abbrev pub InOrderBelow : ℕ → Type 0
  InOrderBelow n = (k : ℕ) (d : Symbol) → k + 1 < n → k + 1 < length (map (λ x. x.1) entries)
      → cmp (get_or (map (λ x. x.1) entries) k d) (get_or (map (λ x. x.1) entries) (k + 1) d) ≡ Less

  symbol-at : (k n : ℕ) (d : Symbol) (x : Word × Symbol) → k ≡ n → n < length entries
      → get_or (map (λ x. x.1) entries) k d ≡ (get_or entries n x).1
  symbol-at k n d x e within =
      ap (λ i. get_or (map (λ x. x.1) entries) i d) e ∙ get_or-map (λ x. x.1) entries n x d within

  -- one symbol is in order
  pub order-none : InOrderBelow 1
  order-none k d below there = absurd (omega arith)

  module _ (n : ℕ) (x y : Word × Symbol) (some : 1 ≤ n) (within : n < length entries) where
    -- one more neighbour
    pub order-more : InOrderBelow n → is_lt (cmp (get_or entries (n - 1) x).1 (get_or entries n y).1) ≡ true → InOrderBelow (n + 1)
    order-more so_far less k d below there = elim (cases_lt (k + 1) n) [
      | inl before ↦ so_far k d before there
      | inr here ↦
          rw (symbol-at k (n - 1) d x (omega arith) (omega arith), symbol-at (k + 1) n d y (omega arith) within)
          (less-from _ less)
    ]

    -- a symbol that is not less than the next one
    pub order-broken : is_lt (cmp (get_or entries (n - 1) x).1 (get_or entries n y).1) ≡ false
        → ¬ (IsStrictlySortedBy cmp (map (λ x. x.1) entries))
    order-broken not_less s =
        let below = Less-from_sorted cmp (map (λ x. x.1) entries) (n - 1) n y.1 s (omega arith)
        (omega (arith, length-map entries (λ x. x.1))) in
        let less : cmp (get_or entries (n - 1) x).1 (get_or entries n y).1 ≡ Less =
        rw (symbol-at (n - 1) (n - 1) y.1 x refl (omega arith), symbol-at n n y.1 y refl within) at below in
        let bad : true ≡ false = ap is_lt (sym less) ∙ not_less in
        cc

  -- symbols in order are sorted
  pub order-all : IsTotalOrder cmp → (n : ℕ) → InOrderBelow n → length entries ≤ n → IsStrictlySortedBy cmp (map (λ x. x.1) entries)
  order-all o n so_far all =
      sorted-from_neighbours o (map (λ x. x.1) entries)
      (λ k d h. so_far k d (omega (arith, h, length-map entries (λ x. x.1))) h)

-- ---- equality by order

all-same : {K : Type 0} (test other : K → Bool) → ((y : K) → test y ≡ other y) → (ks : List K)
    → AllByRecursion (λ y. other y ≡ false) ks → AllByRecursion (λ y. test y ≡ false) ks
all-same test other same [] a = tt
all-same test other same (k ∷ ks) a = (same k ∙ a.0, all-same test other same ks a.1)

distinct-same : {K : Type 0} (eq other : K → K → Bool) → ((x y : K) → eq x y ≡ other x y) → (ks : List K)
    → IsDistinct other ks → IsDistinct eq ks
unfolding IsDistinct
distinct-same eq other same [] d = tt
distinct-same eq other same (k ∷ ks) d = (all-same (eq k) (other k) (same k) ks d.0, distinct-same eq other same ks d.1)

-- no two symbols in increasing order are equal
pub sorted-distinct : {K : Type 0} (eq : K → K → Bool) (cmp : K → K → Ordering) → ((x y : K) → eq x y ≡ is_eq (cmp x y)) → (ks : List K)
    → IsStrictlySortedBy cmp ks → IsDistinct eq ks
sorted-distinct eq cmp same ks s = distinct-same eq (eq_by_cmp cmp) same ks (IsDistinct-from_sorted cmp ks s)
