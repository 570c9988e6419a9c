-- A set of the symbols seen so far, which finds two equal symbols.
use Rattle.std.specs.Prelude.{◌≡◌, ℕ, ◌+◌, ◌<◌, ◌≤◌, ◌||◌, Bool, true, false, cond, List, [], ◌∷◌, ◌++◌, length, map, take, drop}
use Rattle.std.proofs.Common.{suc, get_or, refl, ap, sym, subst, ◌∙◌, arith, take-append-drop, drop-cons}
use Rattle.std.specs.Cmp.{IsEquivalence}
use Rattle.std.specs.List.{list_any, IsDistinct}
use Rattle.std.proofs.lemmas.List.{map-append, take_all, take_more}
use Rattle.std.proofs.lemmas.List.Folds.{list_any-append}
use Rattle.constriction_stored_rows.proofs.ReadLemmas.{not-distinct, none-distinct, distinct-push}

or-one : (b : Bool) → (b || false) ≡ b
or-one true = refl
or-one false = refl

or-cond : (a b : Bool) → cond b true a ≡ (a || b)
or-cond true true = refl
or-cond true false = refl
or-cond false true = refl
or-cond false false = refl

module _ {Word Symbol Key : Type 0} (eq : Symbol → Symbol → Bool) (laws : IsEquivalence eq) (now : Key → Symbol)
    (entries : List (Word × Symbol)) where
  -- the first n symbols are in the set, and no two of them are equal
  pub record AreSeen (has : Key → Bool) (n : ℕ) : Type 0 where
    pub holds : (q : Key) → has q ≡ list_any (eq (now q)) (map (λ x. x.1) (take n entries))
    pub distinct : IsDistinct eq (map (λ x. x.1) (take n entries))

  -- at first no symbol was seen
  pub seen-none : (has : Key → Bool) → ((q : Key) → has q ≡ false) → AreSeen has 0
  seen-none has none = record { holds = none; distinct = none-distinct eq }

  module _ (has : Key → Bool) (n : ℕ) (e : Word × Symbol) (k : Key) (seen : AreSeen has n) (within : n < length entries)
      (here : e ≡ get_or entries n e) (is : now k ≡ e.1) where
    symbols-more : map (λ x. x.1) (take (n + 1) entries) ≡ map (λ x. x.1) (take n entries) ++ e.1 ∷ []
    symbols-more =
        ap (map (λ x. x.1)) (take_more entries n e within)
        ∙ map-append (λ x. x.1) (take n entries) (get_or entries n e ∷ [])
        ∙ ap (λ (x : Word × Symbol). map (λ y. y.1) (take n entries) ++ x.1 ∷ []) (sym here)

    absent : (b : Bool) → has k ≡ b → list_any (eq e.1) (map (λ x. x.1) (take n entries)) ≡ b
    absent b h = ap (λ s. list_any (eq s) (map (λ x. x.1) (take n entries))) (sym is) ∙ sym (seen.holds k) ∙ h

    -- one more symbol, which is equal to none before it
    pub seen-more : (next : Key → Bool) → has k ≡ false → ((q : Key) → next q ≡ cond (eq (now k) (now q)) true (has q))
        → AreSeen next (n + 1)
    seen-more next apart updates = record {
      holds = λ q.
          updates q
          ∙ or-cond (has q) (eq (now k) (now q))
          ∙ ap (λ b. has q || b) (laws.symm (now k) (now q) ∙ ap (eq (now q)) is ∙ sym (or-one (eq (now q) e.1)))
          ∙ ap (λ b. b || list_any (eq (now q)) (e.1 ∷ [])) (seen.holds q)
          ∙ sym (list_any-append (eq (now q)) (map (λ x. x.1) (take n entries)) (e.1 ∷ []))
          ∙ ap (list_any (eq (now q))) (sym symbols-more);
      distinct =
          subst (IsDistinct eq) (sym symbols-more)
          (distinct-push eq laws.symm (map (λ x. x.1) (take n entries)) e.1 seen.distinct (absent false apart));
    }

    -- a symbol that is equal to one before it
    pub seen-twice : has k ≡ true → ¬ (IsDistinct eq (map (λ x. x.1) entries))
    seen-twice found d =
        let rest : drop n entries ≡ e ∷ drop (n + 1) entries =
        drop-cons entries n e within ∙ ap (λ (x : Word × Symbol). x ∷ drop (suc n) entries) (sym here)
        ∙ ap (λ i. e ∷ drop i entries) (let next : suc n ≡ n + 1 = omega arith in next) in
        let all : map (λ x. x.1) entries ≡ map (λ x. x.1) (take n entries) ++ e.1 ∷ map (λ x. x.1) (drop (n + 1) entries) =
        ap (map (λ x. x.1)) (sym (take-append-drop n entries) ∙ ap (λ xs. take n entries ++ xs) rest)
        ∙ map-append (λ x. x.1) (take n entries) (e ∷ drop (n + 1) entries) in
        not-distinct eq laws.symm (map (λ x. x.1) (take n entries)) (map (λ x. x.1) (drop (n + 1) entries)) e.1 (absent true found)
        (subst (IsDistinct eq) all d)

  -- if all symbols were seen once, they differ
  pub seen-all : (has : Key → Bool) (n : ℕ) → AreSeen has n → length entries ≤ n → IsDistinct eq (map (λ x. x.1) entries)
  seen-all has n seen all = subst (λ (xs : List (Word × Symbol)). IsDistinct eq (map (λ x. x.1) xs)) (take_all n entries all) seen.distinct
