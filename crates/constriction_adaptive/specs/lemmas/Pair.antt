-- Symbols in pairs: equality on each side is an equality, rows tile whatever their symbols are, and what comes back leads to the same
-- state. The impls cite it.
use Rattle.std.specs.Prelude.{◌≡◌, ℕ, ◌+◌, Bool, true, false, List, [], ◌∷◌, drop, length, map, if◌then◌else◌}
use Rattle.std.specs.Cmp.{IsEquivalence}
use Rattle.std.proofs.Common.{get_or, refl, ap, ◌∙◌, subst, arith}
use Rattle.constriction_model.specs.Acceptance.{IsAccepted}
use Rattle.constriction_model.specs.Coding.{StandsForEqual}
use Rattle.constriction_model.specs.Rows.{Row, RowsTile, rows_from}
use Rattle.either.specs.Either.{SameSide}
use Rattle.either.specs.declared.Either.{Either}
use Rattle.either.specs.declared.Either.TheVariants.{Left, Right}
use Rattle.constriction_adaptive.specs.ByContext.{context_state}
use Rattle.constriction_adaptive.specs.Pair.{PairState, pair_state, after_side, equal_on_sides, with_symbols, without_symbols}
use Rattle.constriction_adaptive.specs.lemmas.ByContext.{learned-same}

-- two equalities are one on both sides
pub sides-equivalence : {A B : Type 0} {eq_left : A → A → Bool} {eq_right : B → B → Bool} → IsEquivalence eq_left → IsEquivalence eq_right
    → IsEquivalence (equal_on_sides eq_left eq_right)
sides-equivalence {A} {B} {eq_left} {eq_right} left right = record { refl = itself; symm = turned; congr = others }
  where
    eq : Either A B → Either A B → Bool
    eq = equal_on_sides eq_left eq_right

    itself : (x : Either A B) → eq x x ≡ true
    itself (Left a) = left.refl a
    itself (Right b) = right.refl b

    turned : (x y : Either A B) → eq x y ≡ eq y x
    turned (Left a) (Left b) = left.symm a b
    turned (Left a) (Right b) = refl
    turned (Right a) (Left b) = refl
    turned (Right a) (Right b) = right.symm a b

    others : (x y z : Either A B) → eq x y ≡ true → eq x z ≡ eq y z
    others (Left a) (Left b) (Left c) e = left.congr a b c e
    others (Left a) (Left b) (Right c) e = refl
    others (Left a) (Right b) z e = absurd (let wrong : false ≡ true = e in cc)
    others (Right a) (Left b) z e = absurd (let wrong : false ≡ true = e in cc)
    others (Right a) (Right b) (Left c) e = refl
    others (Right a) (Right b) (Right c) e = right.congr a b c e

-- the weights stay
pub same-weights : {S T : Type 0} (f : S → T) (rows : List (Row S)) → map (λ r. r.weight) (with_symbols f rows) ≡ map (λ r. r.weight) rows
same-weights f [] = refl
same-weights f (r ∷ rs) = ap (λ ws. r.weight ∷ ws) (same-weights f rs)

rows-from-as : {S T : Type 0} (f : S → T) (l : ℕ) (rows : List (Row S)) (ss : List T)
    → with_symbols f rows ≡ rows_from l ss (map (λ r. r.weight) (with_symbols f rows))
    → rows ≡ rows_from l (map (λ r. r.symbol) rows) (map (λ r. r.weight) rows)
rows-from-as f l [] ss e = refl
rows-from-as {S} {T} f l (r ∷ rs) [] e = absurd (let wrong : length (with_symbols f (r ∷ rs)) ≡ 0 = ap length e in omega (arith, wrong))
rows-from-as {S} {T} f l (r ∷ rs) (s ∷ ss) e =
    let first : Row T = record { symbol = s; left = l; weight = r.weight } in
    let left : r.left ≡ l = ap (λ (xs : List (Row T)). (get_or xs 0 first).left) e in
    let rest = rows-from-as f (l + r.weight) rs ss (ap (drop 1) e) in
    ap (λ n. record { symbol = r.symbol; left = n; weight = r.weight } ∷ rs) left
    ∙ ap (λ xs. record { symbol = r.symbol; left = l; weight = r.weight } ∷ xs) rest

-- rows tile if they do without their symbols
pub tile-without : {S : Type 0} (bits precision : ℕ) (rows : List (Row S)) → RowsTile bits precision (without_symbols rows)
    → RowsTile bits precision rows
tile-without {S} bits precision rows tile =
    let none : S → Unit {0} = λ _. tt in record {
      accepted = subst (λ (ws : List ℕ). IsAccepted bits precision ws) (same-weights none rows) tile.accepted;
      in_order = rows-from-as none 0 rows (map (λ r. r.symbol) (with_symbols none rows)) tile.in_order;
    }

-- what comes back for a symbol is the symbol, if it is on each side
pub symbols-same : {A B : Type 0} (stands_left : A → A → Type 0) (eq_left : A → A → Bool) (stands_right : B → B → Type 0)
    (eq_right : B → B → Bool) → ((symbol answer : A) → StandsForEqual stands_left eq_left symbol answer → answer ≡ symbol)
    → ((symbol answer : B) → StandsForEqual stands_right eq_right symbol answer → answer ≡ symbol) → (symbol answer : Either A B)
    → StandsForEqual (SameSide stands_left stands_right) (equal_on_sides eq_left eq_right) symbol answer → answer ≡ symbol
symbols-same {A} {B} stands_left eq_left stands_right eq_right left right symbol answer e = go e.0 symbol answer e.1 e.2
  where
    go : (own symbol answer : Either A B) → equal_on_sides eq_left eq_right own symbol ≡ true → SameSide stands_left stands_right own answer
        → answer ≡ symbol
    go (Left own) (Left a) (Left b) eq stands = ap Left (left a b (own, eq, stands))
    go (Right own) (Right a) (Right b) eq stands = ap Right (right a b (own, eq, stands))
    go (Left own) (Right a) answer eq stands = absurd (let wrong : false ≡ true = eq in cc)
    go (Right own) (Left a) answer eq stands = absurd (let wrong : false ≡ true = eq in cc)
    go (Left own) (Left a) (Right b) eq stands = absurd stands
    go (Right own) (Right a) (Left b) eq stands = absurd stands

module _ {L R Context A B : Type 0} (next_left : L → A → L) (next_right : R → B → R) (number : Context → ℕ) (after : Context → A → Context)
    (stands_left : A → A → Type 0) (eq_left : A → A → Bool) (stands_right : B → B → Type 0) (eq_right : B → B → Bool)
    (left_same : (s : L) (symbol answer : A) → StandsForEqual stands_left eq_left symbol answer → next_left s answer ≡ next_left s symbol)
    (right_same : (s : R) (symbol answer : B) → StandsForEqual stands_right eq_right symbol answer
    → next_right s answer ≡ next_right s symbol)
    (after_same : (s : Context) (symbol answer : A) → StandsForEqual stands_left eq_left symbol answer → after s answer ≡ after s symbol)
  where
    -- it leads to the same state, if it does on each side and in the context
    pub after-side-same : (s : PairState L R Context) (symbol answer : Either A B)
        → StandsForEqual (SameSide stands_left stands_right) (equal_on_sides eq_left eq_right) symbol answer
        → after_side next_left next_right number after s answer ≡ after_side next_left next_right number after s symbol
    after-side-same s symbol answer e = go e.0 symbol answer e.1 e.2
      where
        go : (own symbol answer : Either A B) → equal_on_sides eq_left eq_right own symbol ≡ true
            → SameSide stands_left stands_right own answer
            → after_side next_left next_right number after s answer ≡ after_side next_left next_right number after s symbol
        go (Left own) (Left a) (Left b) eq stands =
            ap (λ left. if s.is_right then s else pair_state left (context_state s.right.predictors (after s.right.context b)) true)
            (left_same s.left a b (own, eq, stands))
            ∙ ap (λ context. if s.is_right then s else pair_state (next_left s.left a) (context_state s.right.predictors context) true)
            (after_same s.right.context a b (own, eq, stands))
        go (Right own) (Right a) (Right b) eq stands =
            ap (λ right. if s.is_right then pair_state s.left right false else s)
            (learned-same next_right number (λ context _. context) (StandsForEqual stands_right eq_right) right_same (λ _ _ _ _. refl)
            s.right a b (own, eq, stands))
        go (Left own) (Right a) answer eq stands = absurd (let wrong : false ≡ true = eq in cc)
        go (Right own) (Left a) answer eq stands = absurd (let wrong : false ≡ true = eq in cc)
        go (Left own) (Left a) (Right b) eq stands = absurd stands
        go (Right own) (Right a) (Left b) eq stands = absurd stands
