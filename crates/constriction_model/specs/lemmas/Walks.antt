-- Walks: the items that the steps of an iterator give, and those of a symbol table.
use Rattle.std.specs.Prelude.{◌≡◌, ℕ, ◌+◌, ◌-◌, ◌<◌, ◌≤◌, List, [], ◌∷◌, ◌++◌, length, map, Contains, Option, Some, None, Result, Ok, Err, IfOk}
use Rattle.std.proofs.Common.{suc, zero, get_or, refl, ap, sym, subst, ◌∙◌, append-nil, arith}
use Rattle.std.specs.Iterator.{Yields, Drains}
use Rattle.std.specs.List.{AllZip}
use Rattle.std.proofs.lemmas.Slice.Zip.{AllZip-long}
use Rattle.constriction_model.specs.Rows.{Row, RowsTile, IsRowOf, uniform_rows}
use Rattle.constriction_model.specs.Model.{row_of, StandsForRow, StandForRows, ClonesAreSame}
use Rattle.constriction_model.specs.Tables.{StandsFor, YieldsRow}
use Rattle.constriction_model.specs.lemmas.Coding.{one-row}
use Rattle.constriction_model.specs.lemmas.Stand.{its-symbol, its-left, its-weight, same-rows, same-answer}
use Rattle.constriction_model.specs.lemmas.UniformRows.{length-uniform_rows}
use Rattle.constriction_model.specs.Laws.{AreRows, IsInTable}

-- one more item
pub yields-more : {S A : Type 0} (steps : S → Option A → S → Type 0) (s : S) (xs : List A) (t : S) (x : A) (u : S)
    → Yields steps s xs t → steps t (Some x) u → Yields steps s (xs ++ x ∷ []) u
yields-more steps s [] t x u e h = (u, (let P : _ → Type 0 = λ v. steps v (Some x) u in subst P (sym e) h), refl)
yields-more steps s (y ∷ xs) t x u (j, k, r) h = (j, k, yields-more steps j xs t x u r h)

-- if a relation holds of two lists place by place, each element of one has a partner in the other
partner : {X Y : Type 0} (R : X → Y → Type 0) (xs : List X) (ys : List Y) (k : ℕ) (y : Y) → AllZip R xs ys
    → k < length ys → get_or ys k y ≡ y → (x : X) × Contains xs x × R x y
partner R [] [] k y h l e = absurd (omega arith)
partner R [] (z ∷ zs) k y h l e = absurd h
partner R (x ∷ xs) [] k y h l e = absurd h
partner R (x ∷ xs) (z ∷ zs) zero y h l e = (x, (0, omega arith, refl), subst (λ z. R x z) e h.0)
partner R (x ∷ xs) (z ∷ zs) (suc k) y h l e =
    let p = partner R xs zs k y h.1 (omega arith) e in
    (p.0, (suc p.1.0, omega (arith, p.1.1), p.1.2), p.2)

partner-back : {X Y : Type 0} (R : X → Y → Type 0) (xs : List X) (ys : List Y) (k : ℕ) (x : X) → AllZip R xs ys
    → k < length xs → get_or xs k x ≡ x → (y : Y) × Contains ys y × R x y
partner-back R [] ys k x h l e = absurd (omega arith)
partner-back R (z ∷ zs) [] k x h l e = absurd h
partner-back R (z ∷ zs) (y ∷ ys) zero x h l e = (y, (0, omega arith, refl), subst (λ z. R z y) e h.0)
partner-back R (z ∷ zs) (y ∷ ys) (suc k) x h l e =
    let p = partner-back R zs ys k x h.1 (omega arith) e in
    (p.0, (suc p.1.0, omega (arith, p.1.1), p.1.2), p.2)

-- two answers with the same row are equal, if words with the same number are
pub one-answer : {Symbol Word Weight : Type 0} (whole : Word → ℕ) (base : Weight → Word)
    → ((a b : Word) → whole a ≡ whole b → a ≡ b) → ((a b : Weight) → base a ≡ base b → a ≡ b)
    → (y x : Symbol × Word × Weight) → row_of whole base y ≡ row_of whole base x → y ≡ x
one-answer {Symbol = Symbol} whole base one_word one_weight y x e =
    let symbol : y.0 ≡ x.0 = ap (λ (r : Row Symbol). r.symbol) e in
    let left : y.1 ≡ x.1 = one_word y.1 x.1 (ap (λ (r : Row Symbol). r.left) e) in
    let weight : y.2 ≡ x.2 = one_weight y.2 x.2 (one_word (base y.2) (base x.2) (ap (λ (r : Row Symbol). r.weight) e)) in
    ap (λ s. (s, y.1, y.2)) symbol ∙ ap (λ l. (x.0, l, y.2)) left ∙ ap (λ w. (x.0, x.1, w)) weight

module _ {Symbol Word Weight Refusal : Type 0} (Stands : Symbol → Symbol → Type 0) (MayRefuse : Symbol → Type 0) (whole : Word → ℕ)
    (base : Weight → Word) where
  -- items without a refusal are rows that stand for these
  unrefused-rows : (items : List (Result (Symbol × Word × Weight) Refusal)) (rows : List (Row Symbol))
      → AllZip (StandsFor Stands MayRefuse whole base) items rows → (xs : List (Symbol × Word × Weight)) → items ≡ map Ok xs
      → StandForRows Stands (map (row_of whole base) xs) rows
  unrefused-rows [] [] h [] e = tt
  unrefused-rows [] (r ∷ rs) h xs e = absurd h
  unrefused-rows (i ∷ is) rows h [] e = absurd (let long = ap length e in omega arith)
  unrefused-rows [] [] h (x ∷ xs) e = absurd (let long = ap length e in omega arith)
  unrefused-rows (i ∷ is) [] h (x ∷ xs) e = absurd h
  unrefused-rows (Ok y ∷ is) (r ∷ rs) h (x ∷ xs) e =
      let first : y ≡ x = cc in
      let rest : is ≡ map Ok xs = cc in
      let here = subst (λ (z : Symbol × Word × Weight). StandsForRow Stands whole base z r) first h.0.0 in (
        (its-symbol Stands whole base x r here, its-left Stands whole base x r here, its-weight Stands whole base x r here),
        unrefused-rows is rs h.1 xs rest,
      )
  unrefused-rows (Err y ∷ is) (r ∷ rs) h (x ∷ xs) e = absurd (cc)

  -- items that stand for rows one by one are what a law of models asks of a symbol table
  pub are-rows : (items : List (Result (Symbol × Word × Weight) Refusal)) (rows : List (Row Symbol))
      → AllZip (StandsFor Stands MayRefuse whole base) items rows → AreRows Stands MayRefuse whole base items rows
  are-rows items rows h = record {
    stand = h;
    unrefused = unrefused-rows items rows h;
    exact = λ same xs e. same-rows Stands same (map (row_of whole base) xs) rows (unrefused-rows items rows h xs e);
  }

  -- a step that gives an item gives the first row, and the item stands for it
  pub first-given : {T : Type 0} (rows_left : T → List (Row Symbol)) (t : T) (item : Result (Symbol × Word × Weight) Refusal) (u : T)
      → YieldsRow Stands MayRefuse whole base rows_left t (Some item) u
      → (row : Row Symbol) × (rows_left t ≡ row ∷ rows_left u) × StandsFor Stands MayRefuse whole base item row
  first-given rows_left t (Ok x) u h = (row_of whole base (h.0, x.1, x.2), h.2, ((h.0, h.1, refl), tt))
  first-given rows_left t (Err e) u h = (h.0, h.2, (tt, h.1))

  -- if no row may be refused, no item is a refusal
  pub never-refused : ((s : Symbol) → MayRefuse s → ⊥) → (items : List (Result (Symbol × Word × Weight) Refusal))
      (rows : List (Row Symbol))
      → AllZip (StandsFor Stands MayRefuse whole base) items rows → (xs : List (Symbol × Word × Weight)) × (items ≡ map Ok xs)
  never-refused never [] rows h = ([], refl)
  never-refused never (i ∷ is) [] h = absurd h
  never-refused never (Ok x ∷ is) (r ∷ rs) h =
      let rest = never-refused never is rs h.1 in
      (x ∷ rest.0, ap (λ (zs : List (Result (Symbol × Word × Weight) Refusal)). Ok x ∷ zs) rest.1)
  never-refused never (Err e ∷ is) (r ∷ rs) h = absurd (never r.symbol h.0.1)

  -- if clones are the same values, an item that stands for the row of an answer is the answer
  is-answer : ClonesAreSame Stands → ((a b : Word) → whole a ≡ whole b → a ≡ b) → ((a b : Weight) → base a ≡ base b → a ≡ b)
      → (x : Symbol × Word × Weight) (r : Row Symbol) → row_of whole base x ≡ r → (item : Result (Symbol × Word × Weight) Refusal)
      → IfOk item (λ y. StandsForRow Stands whole base y r) → IfOk item (λ y. y ≡ x)
  is-answer same one_word one_weight x r e (Ok y) h =
      one-answer whole base one_word one_weight y x (same-answer Stands same whole base y r h ∙ sym e)
  is-answer same one_word one_weight x r e (Err f) h = tt

  module _ {T : Type 0} (steps : T → Option (Result (Symbol × Word × Weight) Refusal) → T → Type 0)
      (rows_left : T → List (Row Symbol))
      (law : (t : T) (r : Option (Result (Symbol × Word × Weight) Refusal)) (u : T) → steps t r u
      → YieldsRow Stands MayRefuse whole base rows_left t r u) where
    stand-for : (t : T) (items : List (Result (Symbol × Word × Weight) Refusal)) (u : T) → Yields steps t items u
        → (rows : List (Row Symbol)) × (rows_left t ≡ rows ++ rows_left u)
        × AllZip (StandsFor Stands MayRefuse whole base) items rows
    stand-for t [] u h = ([], ap rows_left h, tt)
    stand-for t (x ∷ xs) u (j, step, rest) =
        let one = first-given rows_left t x j (law t (Some x) j step) in
        let more = stand-for j xs u rest in
        (one.0 ∷ more.0, one.1 ∙ ap (λ zs. one.0 ∷ zs) more.1, (one.2, more.2))

    -- steps in a row give the first rows of those left, and leave the others
    pub walks-rows : (t : T) (items : List (Result (Symbol × Word × Weight) Refusal)) (u : T) → Yields steps t items u
        → (rows : List (Row Symbol)) × (rows_left t ≡ rows ++ rows_left u) × AreRows Stands MayRefuse whole base items rows
    walks-rows t items u h =
        let all = stand-for t items u h in
        (all.0, all.1, are-rows items all.0 all.2)

    drained : (t : T) (items : List (Result (Symbol × Word × Weight) Refusal)) → Drains steps t items
        → AllZip (StandsFor Stands MayRefuse whole base) items (rows_left t)
    drained t items (u, (v, walk, end)) =
        let all = stand-for t items v walk in
        let none = law v None u end in
        let is : all.0 ≡ rows_left t = sym (all.1 ∙ ap (λ zs. all.0 ++ zs) none.0 ∙ append-nil all.0) in
        subst (λ (rows : List (Row Symbol)). AllZip (StandsFor Stands MayRefuse whole base) items rows) is all.2

    -- steps to the end give all rows that were left, each once
    pub gives-all-rows : (t : T) (items : List (Result (Symbol × Word × Weight) Refusal)) → Drains steps t items
        → AreRows Stands MayRefuse whole base items (rows_left t)
    gives-all-rows t items h = are-rows items (rows_left t) (drained t items h)

    -- there are as many items as rows were left
    pub gives-as-many : (t : T) (items : List (Result (Symbol × Word × Weight) Refusal)) → Drains steps t items
        → length items ≡ length (rows_left t)
    gives-as-many t items h =
        sym (AllZip-long (StandsFor Stands MayRefuse whole base) items (rows_left t) (drained t items h))

    -- the row of a quantile is in the symbol table, once
    pub answers-are-in-table : {M : Type 0} (bits precision : ℕ) (rows : M → List (Row Symbol))
        → ((m : M) → RowsTile bits precision (rows m)) → ((a b : Word) → whole a ≡ whole b → a ≡ b)
        → ((a b : Weight) → base a ≡ base b → a ≡ b)
        → (m : M) (t : T) (items : List (Result (Symbol × Word × Weight) Refusal)) (q : ℕ) (r : Row Symbol)
        → rows_left t ≡ rows m → Drains steps t items → IsRowOf (rows m) q r → IsInTable Stands MayRefuse whole base items q r
    answers-are-in-table bits precision rows tile one_word one_weight m t items q r e d found =
        let all = subst (λ (rs : List (Row Symbol)). AllZip (StandsFor Stands MayRefuse whole base) items rs) e (drained t items d) in
        let among = found.among in
        let p = partner (StandsFor Stands MayRefuse whole base) items (rows m) among.0 r all among.1 among.2 in
        let only : (y : Symbol × Word × Weight) → Contains items (Ok y) → whole y.1 ≤ q → q < whole y.1 + whole (base y.2)
        → StandsForRow Stands whole base y r =
        λ y given from to.
        let o = partner-back (StandsFor Stands MayRefuse whole base) items (rows m) given.0 (Ok y) all given.1 given.2 in
        let stands : StandsForRow Stands whole base y o.0 = o.2.0 in
        let other : IsRowOf (rows m) q o.0 = record {
          among = o.1;
          from = omega (arith, its-left Stands whole base y o.0 stands, from);
          to = omega (arith, its-left Stands whole base y o.0 stands, its-weight Stands whole base y o.0 stands, to);
        } in
        subst (λ (z : Row Symbol). StandsForRow Stands whole base y z)
        (one-row bits precision (rows m) q o.0 r (tile m) other found) stands in
        record {
          item = p.0;
          among = p.1;
          stands = p.2;
          alone = only;
          exact = λ same x is. (
            is-answer same one_word one_weight x r is p.0 p.2.0,
            λ y given from to.
                one-answer whole base one_word one_weight y x
                (same-answer Stands same whole base y r (only y given from to) ∙ sym is),
          );
        }

-- the number of uniform rows
pub row-count : (precision n : ℕ) → 0 < n → length (uniform_rows precision n) ≡ n
row-count precision n h =
    let last : n - 1 + 1 ≡ n = omega arith in
    ap (λ k. length (uniform_rows precision k)) (sym last) ∙ length-uniform_rows precision (n - 1) ∙ last
