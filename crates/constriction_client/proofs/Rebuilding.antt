-- Models that are made anew of the symbols and the weights of a table.
use Rattle.std.proofs.Common.{◌≡◌, ℕ, ◌^◌, ◌<◌, Bool, List, [], ◌∷◌, ◌++◌, Option, Some, None, Result, Ok, Err, length, get_or, map, vec_len, refl, ap, sym, subst, ◌∙◌, arith}
use Rattle.std.specs.Cmp.{IsEquivalence}
use Rattle.std.specs.Prelude.{IfErr, IfSome}
use Rattle.std.specs.Iterator.{Drains}
use Rattle.std.specs.Iterator.Runs.{EachRunFrom, EveryRun, ItemsAre}
use Rattle.std.specs.List.{IsDistinct}
use Rattle.std.specs.Vec.Iter.{into_iter_items, into_iter_len, into_iter_steps}
use Rattle.std.specs.declared.vec.IntoIter.{IntoIter}
use Rattle.std.specs.declared.vec.Vec.{Vec}
use Rattle.std.proofs.lemmas.List.{get_or-map, length-map, map-append, map-id}
use Rattle.std.proofs.lemmas.Simd.{map-map}
use Rattle.constriction_model.specs.Acceptance.{AreAccepted, GivesList}
use Rattle.constriction_model.specs.declared.error.ModelError.{ModelError}
use Rattle.constriction_model.specs.declared.error.ModelError.TheVariants.{InvalidTable, OutOfMemory}
use Rattle.constriction_model.specs.Laws.{AreRows}
use Rattle.constriction_model.specs.Model.{row_of, StandForRows, ClonesAreEqual}
use Rattle.constriction_model.specs.Rows.{Row, RowsTile, rows_of, symbols_of}
use Rattle.constriction_model.specs.lemmas.Stand.{tile-made, distinct-made, tiling-rebuilds}

-- no item is a refusal, and these are the symbols and the weights of the items' rows
pub record Parted {Symbol Word Weight Refusal : Type 0} (base : Weight → Word)
    (items : List (Result (Symbol × Word × Weight) Refusal)) (symbols : List Symbol) (weights : List Word) : Type 0 where
  pub rows : List (Symbol × Word × Weight)
  pub came : items ≡ map Ok rows
  pub symbols_are : symbols ≡ map (λ x. x.0) rows
  pub weights_are : weights ≡ map (λ x. base x.2) rows

module _ {Symbol Word Weight Refusal : Type 0} (base : Weight → Word) where
  -- no items part into no symbols and no weights
  pub parted-none : Parted {Symbol = Symbol} {Word = Word} {Weight = Weight} {Refusal = Refusal} base [] [] []
  parted-none = record { rows = []; came = refl; symbols_are = refl; weights_are = refl }

  -- one more item adds its symbol and its weight
  pub parted-more : (items : List (Result (Symbol × Word × Weight) Refusal)) (symbols : List Symbol) (weights : List Word)
      (symbol : Symbol) (left word : Word) (weight : Weight) → word ≡ base weight → Parted base items symbols weights
      → Parted base (items ++ Ok (symbol, left, weight) ∷ []) (symbols ++ symbol ∷ []) (weights ++ word ∷ [])
  parted-more items symbols weights symbol left word weight is p =
      let row : Symbol × Word × Weight = (symbol, left, weight) in
      record {
        rows = p.rows ++ row ∷ [];
        came = ap (λ xs. xs ++ Ok row ∷ []) p.came ∙ sym (map-append Ok p.rows (row ∷ []));
        symbols_are = ap (λ xs. xs ++ symbol ∷ []) p.symbols_are ∙ sym (map-append (λ (x : Symbol × Word × Weight). x.0) p.rows (row ∷ []));
        weights_are =
            ap (λ xs. xs ++ word ∷ []) p.weights_are
            ∙ ap (λ w. map (λ (x : Symbol × Word × Weight). base x.2) p.rows ++ w ∷ []) is
            ∙ sym (map-append (λ (x : Symbol × Word × Weight). base x.2) p.rows (row ∷ []));
      }

  -- a walk to its end gave rows with these symbols and weights
  pub parted-all : {Walk : Type 0} (steps : Walk → Option (Result (Symbol × Word × Weight) Refusal) → Walk → Type 0) (started walk : Walk)
      (items : List (Result (Symbol × Word × Weight) Refusal)) (symbols : List Symbol) (weights : List Word)
      → started ≡ walk → Drains steps started items → Parted base items symbols weights
      → (rows : List (Symbol × Word × Weight)) × Drains steps walk (map Ok rows)
      × (symbols ≡ map (λ x. x.0) rows) × (weights ≡ map (λ x. base x.2) rows)
  parted-all steps started walk items symbols weights e drained p = (
    p.rows,
    subst (λ s. Drains steps s (map Ok p.rows)) e (subst (λ xs. Drains steps started xs) p.came drained),
    p.symbols_are,
    p.weights_are,
  )

-- the lists that were read are the symbols and the weights of the rows
pub parted-rows : {Symbol Word Weight : Type 0} (base : Weight → Word) (whole : Word → ℕ) (read : List (Symbol × Word × Weight))
    (symbols : List Symbol) (weights : List Word)
    → symbols ≡ map (λ x. x.0) read → weights ≡ map (λ x. base x.2) read
    → (symbols ≡ symbols_of (map (row_of whole base) read))
    × (map whole weights ≡ map (λ r. r.weight) (map (row_of whole base) read))
parted-rows {Symbol} {Word} {Weight} base whole read symbols weights symbols_are weights_are = (
  symbols_are ∙ sym (map-map (λ (r : Row Symbol). r.symbol) (row_of whole base) read),
  ap (map whole) weights_are ∙ map-map whole (λ (x : Symbol × Word × Weight). base x.2) read
      ∙ sym (map-map (λ (r : Row Symbol). r.weight) (row_of whole base) read),
)

-- what is true of the symbols and the weights of rows is true of lists that are equal to them
their-lists : {Symbol : Type 0} (eq : Symbol → Symbol → Bool) (bits precision : ℕ) (rows : List (Row Symbol))
    (symbols : List Symbol) (numbers : List ℕ)
    → (symbols ≡ symbols_of rows) × (numbers ≡ map (λ r. r.weight) rows)
    → AreAccepted eq bits precision (symbols_of rows) (map (λ r. r.weight) rows)
    × (rows_of (symbols_of rows) (map (λ r. r.weight) rows) ≡ rows)
    → AreAccepted eq bits precision symbols numbers × (rows_of symbols numbers ≡ rows)
their-lists eq bits precision rows symbols numbers same h = rw (same.0, same.1) h

-- the lists that were read of a table are accepted, and their rows stand for those of the table
module _ {Symbol Word Weight Refusal Walk : Type 0} (eq : Symbol → Symbol → Bool) (laws : IsEquivalence eq)
    (Stands : Symbol → Symbol → Type 0) (equal : ClonesAreEqual eq Stands) (MayRefuse : Symbol → Type 0) (bits precision : ℕ)
    (whole : Word → ℕ) (base : Weight → Word) (steps : Walk → Option (Result (Symbol × Word × Weight) Refusal) → Walk → Type 0) where
  lists-of-rows : (rows : List (Row Symbol)) (read : List (Symbol × Word × Weight)) (symbols : List Symbol) (weights : List Word)
      → RowsTile bits precision rows → IsDistinct eq (symbols_of rows)
      → StandForRows Stands (map (row_of whole base) read) rows
      → symbols ≡ map (λ x. x.0) read → weights ≡ map (λ x. base x.2) read
      → AreAccepted eq bits precision symbols (map whole weights)
      × StandForRows Stands (rows_of symbols (map whole weights)) rows
  lists-of-rows rows read symbols weights tile distinct stand ss ws =
      let made : List (Row Symbol) = map (row_of whole base) read in
      let built = their-lists eq bits precision made symbols (map whole weights) (parted-rows base whole read symbols weights ss ws)
      (tiling-rebuilds eq bits precision made (tile-made Stands bits precision made rows stand tile)
      (distinct-made eq laws Stands equal made rows stand distinct)) in
      (built.0, subst (λ (rs : List (Row Symbol)). StandForRows Stands rs rows) (sym built.1) stand)

  -- the symbols and weights of a whole symbol table are accepted, and make its rows again
  pub lists-of-table : (walk : Walk) (left rows : List (Row Symbol)) (symbols : List Symbol) (weights : List Word) → left ≡ rows
      → RowsTile bits precision rows → IsDistinct eq (symbols_of rows)
      → ((items : List (Result (Symbol × Word × Weight) Refusal)) → Drains steps walk items
      → AreRows Stands MayRefuse whole base items left)
      → (read : List (Symbol × Word × Weight)) × Drains steps walk (map Ok read)
      × (symbols ≡ map (λ x. x.0) read) × (weights ≡ map (λ x. base x.2) read)
      → AreAccepted eq bits precision symbols (map whole weights)
      × StandForRows Stands (rows_of symbols (map whole weights)) rows
  lists-of-table walk left rows symbols weights e tile distinct gives (read, drained, ss, ws) =
      lists-of-rows rows read symbols weights tile distinct
      (subst (λ (rs : List (Row Symbol)). StandForRows Stands (map (row_of whole base) read) rs) e
      ((gives (map Ok read) drained).unrefused read refl)) ss ws

-- ---- constructors that are given items

-- what is not an invalid table lacks memory
pub lacks-memory : {Model : Type 0} (r : Result Model ModelError) → (r ≡ Err InvalidTable → ⊥) → IfErr r (λ e. e ≡ OutOfMemory)
lacks-memory (Ok m) valid = tt
lacks-memory (Err InvalidTable) valid = absurd (valid refl)
lacks-memory (Err OutOfMemory) valid = refl

number-at : {A B : Type 0} (value : A → B) (items : List A) (k : ℕ) (o : Option A) → k < length items
    → IfSome o (λ x. x ≡ get_or items k x) → IfSome o (λ x. value x ≡ get_or (map value items) k (value x))
number-at value items k None less is = tt
number-at value items k (Some x) less is = ap value is ∙ sym (get_or-map value items k x (value x) less)

-- a `Vec` that is taken apart gives its items, and the numbers of them
module _ {A Z : Type 0} (v : Vec A Z) where
  abbrev Becomes : Unit {0} → IntoIter A Z → Type 0
  Becomes _ it =
      (into_iter_items it ≡ v.items) × (into_iter_len it ≡ vec_len v) × (into_iter_len it < 2 ^ 64)
      × EveryRun (into_iter_steps {X = A} {Z = Z}) (λ p. ItemsAre p (into_iter_items p.from))

  items-are : (it : IntoIter A Z) → Becomes tt it → EachRunFrom into_iter_steps it (λ p. ItemsAre p v.items)
  items-are it became p seen is = subst (λ xs. ItemsAre p xs) (ap into_iter_items is ∙ became.0) (became.3 p seen)

  -- what it gives has the numbers of its items
  pub gives-numbers : {B : Type 0} (value : A → B) → GivesList value Becomes into_iter_steps tt (map value v.items)
  gives-numbers value it became p seen is =
      let are = items-are it became p seen is in
      let long = length-map v.items value in (
        omega (arith, are.0, long),
        λ whole. are.1 whole ∙ sym long,
        λ k less. number-at value v.items k (p.at k) (omega (arith, are.0)) (are.6 k),
      )

  -- what it gives are its items
  pub gives-items : GivesList (λ x. x) Becomes into_iter_steps tt v.items
  gives-items = subst (λ xs. GivesList (λ x. x) Becomes into_iter_steps tt xs) (map-id v.items) (gives-numbers (λ x. x))
