-- Collecting the rows of a symbol table.
use Rattle.std.specs.Prelude.{◌≡◌, ℕ, ◌+◌, ◌<◌, ◌≤◌, Bool, true, false, List, [], ◌∷◌, ◌++◌, length, map, Option, Some, None, Ok, Result}
use Rattle.std.specs.Cmp.{IsEquivalence}
use Rattle.std.specs.Iterator.{Yields, Drains}
use Rattle.std.specs.List.{list_any, IsDistinct}
use Rattle.std.proofs.Common.{refl, ap, sym, ◌∙◌, subst, arith, length-append}
use Rattle.std.proofs.lemmas.List.{map-append}
use Rattle.std.proofs.lemmas.Simd.{map-map}
use Rattle.constriction_model.specs.Model.{row_of, StandForRows, ClonesAreEqual, ClonesRepeat}
use Rattle.constriction_model.specs.Rows.{Row, RowsTile, symbols_of}
use Rattle.constriction_model.specs.lemmas.Stand.{tile-made, distinct-made}
use Rattle.constriction_stored_rows.specs.Stored.{IsStored}
use Rattle.constriction_model.specs.Tables.{YieldsRow}
use Rattle.constriction_stored_rows.specs.Stored.{rows_paired}
use Rattle.constriction_categorical.specs.private.Walked.{WalkedGood, WalkedBad}
use Rattle.constriction_model.specs.lemmas.Walks.{gives-all-rows, walks-rows}
use Rattle.constriction_model.specs.lemmas.Walks.{yields-more}
use Rattle.constriction_stored_rows.proofs.PairedLemmas.{paired-of_rows}
use Rattle.constriction_stored_rows.proofs.ReadLemmas.{not-distinct, none-distinct, distinct-push, never-any}

module _ {Symbol Word Weight Refusal T : Type 0} (steps : T → Option (Result (Symbol × Word × Weight) Refusal) → T → Type 0) (it : T) where
  -- one more row of a walk
  pub walked-more : (xs : List (Symbol × Word × Weight)) (u v : T) (o : Result (Symbol × Word × Weight) Refusal)
      (x : Symbol × Word × Weight)
      → Yields steps it (map Ok xs) u → steps u (Some o) v → o ≡ Ok x → Yields steps it (map Ok (xs ++ x ∷ [])) v
  walked-more xs u v o x w step e =
      let one : steps u (Some (Ok x)) v = subst (λ (p : Result (Symbol × Word × Weight) Refusal). steps u (Some p) v) e step in
      subst (λ (ys : List (Result (Symbol × Word × Weight) Refusal)). Yields steps it ys v) (sym (map-append Ok xs (x ∷ [])))
      (yields-more steps it (map Ok xs) u (Ok x) v w one)

  module _ (eq : Symbol → Symbol → Bool) (symm : (s t : Symbol) → eq s t ≡ eq t s) where
    -- the entries are the entries of the rows that the walk gave so far, and no two of their symbols are equal
    pub record IsCollected (u : T) (entries : List (Word × Symbol)) : Type 0 where
      pub taken : List (Symbol × Word × Weight)
      pub walked : Yields steps it (map Ok taken) u
      pub held : entries ≡ map (λ x. (x.1, x.0)) taken
      pub distinct : IsDistinct eq (map (λ x. x.0) taken)

    -- before the first step nothing is collected
    pub collected-none : (entries : List (Word × Symbol)) → entries ≡ [] → IsCollected it entries
    collected-none entries n = record { taken = []; walked = refl; held = n; distinct = none-distinct eq }

    module _ (u v : T) (entries : List (Word × Symbol)) (o : Result (Symbol × Word × Weight) Refusal) (x : Symbol × Word × Weight)
        (f : IsCollected u entries) (step : steps u (Some o) v) (e : o ≡ Ok x) (lent : List (Word × Symbol)) (found : Bool)
        (is : found ≡ list_any (eq x.0) (map (λ y. y.1) lent)) (same : lent ≡ entries) where
      answer : (b : Bool) → found ≡ b → list_any (eq x.0) (map (λ y. y.0) f.taken) ≡ b
      answer b h =
          let symbols : map (λ y. y.1) lent ≡ map (λ y. y.0) f.taken =
          ap (map (λ y. y.1)) (same ∙ f.held) ∙ map-map (λ y. y.1) (λ y. (y.1, y.0)) f.taken in
          ap (list_any (eq x.0)) (sym symbols) ∙ sym is ∙ h

      -- one entry more, of a symbol that was not there yet
      pub collected-step : (next : List (Word × Symbol)) → next ≡ entries ++ (x.1, x.0) ∷ [] → found ≡ false → IsCollected v next
      collected-step next n apart = record {
        taken = f.taken ++ x ∷ [];
        walked = walked-more f.taken u v o x f.walked step e;
        held = n ∙ ap (λ ys. ys ++ (x.1, x.0) ∷ []) f.held ∙ sym (map-append (λ y. (y.1, y.0)) f.taken (x ∷ []));
        distinct = rw (map-append (λ y. y.0) f.taken (x ∷ []))
            (distinct-push eq symm (map (λ y. y.0) f.taken) x.0 f.distinct (answer false apart));
      }

      -- a symbol that is equal to one before it
      pub collected-repeat : found ≡ true → WalkedBad steps it (λ xs. IsDistinct eq (map (λ y. y.0) xs))
      collected-repeat h = (
        f.taken ++ x ∷ [],
        v,
        walked-more f.taken u v o x f.walked step e,
        λ d. not-distinct eq symm (map (λ y. y.0) f.taken) [] x.0 (answer true h)
            (subst (IsDistinct eq) (map-append (λ y. y.0) f.taken (x ∷ [])) d),
      )

    -- at the end the entries are those of all rows, and their symbols differ
    pub collected-end : (u v : T) (entries : List (Word × Symbol)) → IsCollected u entries → steps u None v
        → WalkedGood steps it (λ xs. (entries ≡ map (λ x. (x.1, x.0)) xs) × IsDistinct eq (map (λ x. x.0) xs))
    collected-end u v entries f end = (f.taken, (v, (u, f.walked, end)), (f.held, f.distinct))

-- ---- walks whose symbols are not compared

module _ {Symbol Word Weight Refusal T : Type 0} (steps : T → Option (Result (Symbol × Word × Weight) Refusal) → T → Type 0) (it : T) where
  -- one more row
  pub collected-uncompared : (u v : T) (entries next : List (Word × Symbol)) (o : Result (Symbol × Word × Weight) Refusal)
      (x : Symbol × Word × Weight) → IsCollected steps it (λ _ _. false) (λ _ _. refl) u entries → steps u (Some o) v → o ≡ Ok x
      → next ≡ entries ++ (x.1, x.0) ∷ [] → IsCollected steps it (λ _ _. false) (λ _ _. refl) v next
  collected-uncompared u v entries next o x f step e n =
      collected-step steps it (λ _ _. false) (λ _ _. refl) u v entries o x f step e entries
      (list_any (λ _. false) (map (λ y. y.1) entries)) refl refl next n (never-any (map (λ y. y.1) entries))

-- if there is room for what is left, and one item is taken and put at the end, there is room for the rest
pub room-left : {A : Type 0} (before after : List A) (x : A) (left next room : ℕ) → after ≡ before ++ x ∷ [] → length before + left ≤ room
    → next < left → length after + next ≤ room
room-left before after x left next room is fits fewer = omega (arith, ap length is, length-append before (x ∷ []))

-- ---- walks through all rows of a model

module _ {Symbol Word Weight Refusal T : Type 0} (Stands : Symbol → Symbol → Type 0) (MayRefuse : Symbol → Type 0) (whole : Word → ℕ)
    (base : Weight → Word) (steps : T → Option (Result (Symbol × Word × Weight) Refusal) → T → Type 0) (rows_left : T → List (Row Symbol))
    (law : (t : T) (r : Option (Result (Symbol × Word × Weight) Refusal)) (u : T) → steps t r u
    → YieldsRow Stands MayRefuse whole base rows_left t r u)
    (rows : List (Row Symbol)) (it : T) (all : rows_left it ≡ rows) where
  -- what a walk to the end gives, if it gives no refusal
  pub walked-all : (xs : List (Symbol × Word × Weight)) → Drains steps it (map Ok xs)
      → StandForRows Stands (map (row_of whole base) xs) rows
  walked-all xs d =
      subst (λ (rs : List (Row Symbol)). StandForRows Stands (map (row_of whole base) xs) rs) all
      ((gives-all-rows Stands MayRefuse whole base steps rows_left law it (map Ok xs) d).unrefused xs refl)

  module _ (eq : Symbol → Symbol → Bool) where
    walked-symbols : (xs : List (Symbol × Word × Weight)) → map (λ x. x.0) xs ≡ symbols_of (map (row_of whole base) xs)
    walked-symbols xs = sym (map-map (λ r. r.symbol) (row_of whole base) xs)

    -- the symbols of a walk differ if the symbols of the rows do, and a clone is equal to its symbol
    pub walked-apart : IsEquivalence eq → ClonesAreEqual eq Stands → IsDistinct eq (symbols_of rows) → (entries : List (Word × Symbol))
        → WalkedGood steps it (λ xs. entries ≡ map (λ x. (x.1, x.0)) xs)
        → WalkedGood steps it (λ xs. (entries ≡ map (λ x. (x.1, x.0)) xs) × IsDistinct eq (map (λ x. x.0) xs))
    walked-apart laws equal differ entries good =
        let made : List (Row Symbol) = map (row_of whole base) good.0 in (
          good.0,
          good.1,
          (
            good.2,
            subst (IsDistinct eq) (sym (walked-symbols good.0)) (distinct-made eq laws Stands equal made rows
                (walked-all good.0 good.1) differ),
          ),
        )

    -- the entries of such a walk
    module _ (bits precision : ℕ) (t : RowsTile bits precision rows) (entries : List (Word × Symbol))
        (good : WalkedGood steps it (λ xs. (entries ≡ map (λ x. (x.1, x.0)) xs) × IsDistinct eq (map (λ x. x.0) xs))) where
      abbrev made : List (Row Symbol)
      made = map (row_of whole base) good.0

      made-stored : IsStored bits precision (map (λ x. whole x.0) entries) × (rows_paired whole precision entries ≡ made)
      made-stored =
          paired-of_rows whole bits precision made entries (tile-made Stands bits precision made rows (walked-all good.0 good.1) t) (
            ap (map (λ y. y.1)) good.2.0 ∙ map-map (λ y. y.1) (λ y. (y.1, y.0)) good.0 ∙ walked-symbols good.0,
            ap (map (λ y. whole y.0)) good.2.0 ∙ map-map (λ y. whole y.0) (λ y. (y.1, y.0)) good.0
                ∙ sym (map-map (λ r. r.left) (row_of whole base) good.0),
          )

      -- the entries of a whole walk are stored as its rows are
      pub walked-stored : IsStored bits precision (map (λ x. whole x.0) entries)
          × StandForRows Stands (rows_paired whole precision entries) rows
      walked-stored = (
        made-stored.0,
        subst (λ (rs : List (Row Symbol)). StandForRows Stands rs rows) (sym made-stored.1) (walked-all good.0 good.1),
      )

      -- their symbols differ
      pub walked-distinct : IsDistinct eq (map (λ y. y.1) entries) × IsDistinct eq (symbols_of (rows_paired whole precision entries))
      walked-distinct =
          let held : map (λ x. x.0) good.0 ≡ map (λ y. y.1) entries =
          sym (ap (map (λ y. y.1)) good.2.0 ∙ map-map (λ y. y.1) (λ y. (y.1, y.0)) good.0) in (
            subst (IsDistinct eq) held good.2.1,
            subst (IsDistinct eq) (walked-symbols good.0 ∙ ap symbols_of (sym made-stored.1)) good.2.1,
          )

    -- if two symbols are equal, two clones of the rows' symbols are
    pub walked-repeat : WalkedBad steps it (λ xs. IsDistinct eq (map (λ x. x.0) xs)) → ClonesRepeat eq Stands rows
    walked-repeat bad =
        let gave = walks-rows Stands MayRefuse whole base steps rows_left law it (map Ok bad.0) bad.1 bad.2 in (
          map (row_of whole base) bad.0,
          gave.0,
          rows_left bad.1,
          sym all ∙ gave.1,
          gave.2.unrefused bad.0 refl,
          λ d. bad.3 (subst (IsDistinct eq) (sym (walked-symbols bad.0)) d),
        )
