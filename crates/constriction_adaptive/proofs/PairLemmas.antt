-- Rows with other symbols: what a predictor answers as one of two.
use Rattle.std.proofs.Common.{◌≡◌, ℕ, ◌+◌, Bool, true, false, List, [], ◌∷◌, Some, None, refl, ap, sym, ◌∙◌, subst, arith, cond}
use Rattle.std.specs.Prelude.{Contains, if◌then◌else◌, map}
use Rattle.std.specs.Option.{option_or}
use Rattle.std.proofs.lemmas.List.{get_or-map, length-map}
use Rattle.constriction_model.specs.Acceptance.{IsAccepted}
use Rattle.constriction_model.specs.Rows.{Row, IsRowOf, RowsTile, entry_of, rows_from, rows_of as all_rows_of}
use Rattle.constriction_model.specs.lemmas.Rows.{entry_of-cons}
use Rattle.either.specs.declared.Either.{Either}
use Rattle.either.specs.declared.Either.TheVariants.{Left, Right}
use Rattle.constriction_adaptive.specs.ByContext.{ByContexts, learned_in, rows_by_context}
use Rattle.constriction_adaptive.specs.Pair.{PairState, after_side, equal_on_sides, pair_state, rows_of_side, with_symbols, without_symbols}
use Rattle.constriction_adaptive.specs.lemmas.Pair.{same-weights}

module _ {S T : Type 0} (f : S → T) where
  other-symbols : (rows : List (Row S)) → map (λ r. r.symbol) (with_symbols f rows) ≡ map f (map (λ r. r.symbol) rows)
  other-symbols [] = refl
  other-symbols (r ∷ rs) = ap (λ ss. f r.symbol ∷ ss) (other-symbols rs)

  rows-from-with : (l : ℕ) (ss : List S) (ws : List ℕ) → with_symbols f (rows_from l ss ws) ≡ rows_from l (map f ss) ws
  rows-from-with l [] ws = refl
  rows-from-with l (s ∷ ss) [] = refl
  rows-from-with l (s ∷ ss) (w ∷ ws) =
      let first : Row T = record { symbol = f s; left = l; weight = w } in
      ap (λ (rows : List (Row T)). first ∷ rows) (rows-from-with (l + w) ss ws)

  -- they tile as before
  tile-with : (bits precision : ℕ) (rows : List (Row S)) → RowsTile bits precision rows → RowsTile bits precision (with_symbols f rows)
  tile-with bits precision rows tile = record {
    accepted = subst (λ (ws : List ℕ). IsAccepted bits precision ws) (sym (same-weights f rows)) tile.accepted;
    in_order = ap (with_symbols f) tile.in_order ∙ rows-from-with 0 (map (λ r. r.symbol) rows) (map (λ r. r.weight) rows)
        ∙ ap (λ ss. all_rows_of ss (map (λ r. r.weight) rows)) (sym (other-symbols rows))
        ∙ ap (λ ws. all_rows_of (map (λ r. r.symbol) (with_symbols f rows)) ws) (sym (same-weights f rows));
  }

-- so they do without their symbols
tile-without-symbols : {S : Type 0} (bits precision : ℕ) (rows : List (Row S)) → RowsTile bits precision rows
    → RowsTile bits precision (without_symbols rows)
tile-without-symbols {S} bits precision rows tile = tile-with {T = Unit {0}} (λ _. tt) bits precision rows tile

module _ {S T : Type 0} (f : S → T) where
  -- rows of one side tile without their symbols
  pub tile-of-side : (bits precision : ℕ) (rows : List (Row S)) → RowsTile bits precision rows
      → RowsTile bits precision (without_symbols (with_symbols f rows))
  tile-of-side bits precision rows tile = tile-without-symbols bits precision (with_symbols f rows) (tile-with f bits precision rows tile)

  -- the row of a quantile has the other symbol
  pub row-with : (rows : List (Row S)) (all : List (Row T)) → all ≡ with_symbols f rows → (q : ℕ) (r : Row S) → IsRowOf rows q r
      → IsRowOf all q (record { symbol = f r.symbol; left = r.left; weight = r.weight })
  row-with rows all e q r is =
      let named : Row S → Row T = λ r. record { symbol = f r.symbol; left = r.left; weight = r.weight } in
      let among = is.among in
      let there : Contains (with_symbols f rows) (named r) = (
        among.0,
        omega (arith, among.1, length-map rows named),
        get_or-map named rows among.0 r _ among.1 ∙ ap named among.2,
      ) in
      record { among = subst (λ (rs : List (Row T)). Contains rs (named r)) (sym e) there; from = is.from; to = is.to }

  -- the other symbol has the entry of the symbol
  entry-with : (eq : S → S → Bool) (other : T → T → Bool) (s : S) → ((a : S) → other (f a) (f s) ≡ eq a s) → (rows : List (Row S))
      → entry_of other (with_symbols f rows) (f s) ≡ entry_of eq rows s
  entry-with eq other s alike [] = refl
  entry-with eq other s alike (r ∷ rs) =
      entry_of-cons other (f s) (record { symbol = f r.symbol; left = r.left; weight = r.weight }) (with_symbols f rs)
      ∙ ap (λ e. option_or e (cond (other (f r.symbol) (f s)) (Some (r.left, r.weight)) None)) (entry-with eq other s alike rs)
      ∙ ap (λ t. option_or (entry_of eq rs s) (cond t (Some (r.left, r.weight)) None)) (alike r.symbol) ∙ sym (entry_of-cons eq s r rs)

  -- a symbol that equals none of the others has no entry
  none-with : (other : T → T → Bool) (t : T) → ((a : S) → other (f a) t ≡ false) → (rows : List (Row S))
      → entry_of other (with_symbols f rows) t ≡ None
  none-with other t apart [] = refl
  none-with other t apart (r ∷ rs) =
      entry_of-cons other t (record { symbol = f r.symbol; left = r.left; weight = r.weight }) (with_symbols f rs)
      ∙ ap (λ e. option_or e (cond (other (f r.symbol) t) (Some (r.left, r.weight)) None)) (none-with other t apart rs)
      ∙ ap (λ b. option_or None (cond b (Some (r.left, r.weight)) None)) (apart r.symbol)

module _ {A B : Type 0} (eq_left : A → A → Bool) (eq_right : B → B → Bool) (all : List (Row (Either A B))) where
  -- the entry of a left symbol, where left ones are next
  pub entry-left : (rows : List (Row A)) → all ≡ with_symbols Left rows → (s : Either A B) (a : A) → s ≡ Left a
      → entry_of eq_left rows a ≡ entry_of (equal_on_sides eq_left eq_right) all s
  entry-left rows e s a is =
      sym (ap (λ rs. entry_of (equal_on_sides eq_left eq_right) rs s) e
      ∙ ap (entry_of (equal_on_sides eq_left eq_right) (with_symbols Left rows)) is
      ∙ entry-with Left eq_left (equal_on_sides eq_left eq_right) a (λ _. refl) rows)

  -- a right one has none
  pub none-right : (rows : List (Row A)) → all ≡ with_symbols Left rows → (s : Either A B) (b : B) → s ≡ Right b
      → None ≡ entry_of (equal_on_sides eq_left eq_right) all s
  none-right rows e s b is =
      sym (ap (λ rs. entry_of (equal_on_sides eq_left eq_right) rs s) e
      ∙ ap (entry_of (equal_on_sides eq_left eq_right) (with_symbols Left rows)) is
      ∙ none-with Left (equal_on_sides eq_left eq_right) (Right b) (λ _. refl) rows)

  -- the entry of a right symbol, where right ones are next
  pub entry-right : (rows : List (Row B)) → all ≡ with_symbols Right rows → (s : Either A B) (b : B) → s ≡ Right b
      → entry_of eq_right rows b ≡ entry_of (equal_on_sides eq_left eq_right) all s
  entry-right rows e s b is =
      sym (ap (λ rs. entry_of (equal_on_sides eq_left eq_right) rs s) e
      ∙ ap (entry_of (equal_on_sides eq_left eq_right) (with_symbols Right rows)) is
      ∙ entry-with Right eq_right (equal_on_sides eq_left eq_right) b (λ _. refl) rows)

  -- a left one has none
  pub none-left : (rows : List (Row B)) → all ≡ with_symbols Right rows → (s : Either A B) (a : A) → s ≡ Left a
      → None ≡ entry_of (equal_on_sides eq_left eq_right) all s
  none-left rows e s a is =
      sym (ap (λ rs. entry_of (equal_on_sides eq_left eq_right) rs s) e
      ∙ ap (entry_of (equal_on_sides eq_left eq_right) (with_symbols Right rows)) is
      ∙ none-with Right (equal_on_sides eq_left eq_right) (Left a) (λ _. refl) rows)

module _ {L R Context A B : Type 0} (left_rows : L → List (Row A)) (right_rows : R → List (Row B)) (number : Context → ℕ) where
  -- the rows where left symbols are next
  pub side-left : (s : PairState L R Context) → s.is_right ≡ false
      → rows_of_side left_rows right_rows number s ≡ with_symbols Left (left_rows s.left)
  side-left s h =
      ap (λ b. if b then with_symbols Right (rows_by_context right_rows number s.right) else with_symbols Left (left_rows s.left)) h

  -- the rows where right symbols are next
  pub side-right : (s : PairState L R Context) → s.is_right ≡ true
      → rows_of_side left_rows right_rows number s ≡ with_symbols Right (rows_by_context right_rows number s.right)
  side-right s h =
      ap (λ b. if b then with_symbols Right (rows_by_context right_rows number s.right) else with_symbols Left (left_rows s.left)) h

-- a right symbol was learned
pub right-learned : {L R Context A B : Type 0} (next_left : L → A → L) (next_right : R → B → R) (number : Context → ℕ)
    (after : Context → A → Context) (s : PairState L R Context) (symbol : Either A B) (b : B) (right : ByContexts R Context)
    → symbol ≡ Right b → s.is_right ≡ true → right ≡ learned_in next_right number (λ context _. context) s.right b
    → pair_state s.left right false ≡ after_side next_left next_right number after s symbol
right-learned next_left next_right number after s symbol b right is h learned =
    ap (λ r. pair_state s.left r false) learned
    ∙ sym (ap (after_side next_left next_right number after s) is
    ∙ ap (λ t. if t then pair_state s.left (learned_in next_right number (λ context _. context) s.right b) false else s) h)
