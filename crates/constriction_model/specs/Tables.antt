-- Symbol tables: what one step of a walk through the rows of a model gives, from either end.
use Rattle.std.specs.Prelude.{◌≡◌, ℕ, List, [], ◌∷◌, ◌++◌, take, drop, Option, Some, None, Result, Ok, Err, IfOk, IfErr}
use Rattle.constriction_model.specs.Rows.{Row}
use Rattle.constriction_model.specs.Model.{row_of, StandsForRow}

module _ {Symbol Word Weight Refusal : Type 0} (Stands : Symbol → Symbol → Type 0) (MayRefuse : Symbol → Type 0) (whole : Word → ℕ)
    (base : Weight → Word) where
  -- The item stands for the row: its symbol stands for the row's symbol, and its words are the left cumulative and the weight. If a clone
  -- of the row's symbol may be refused, a refusal stands for the row too.
  abbrev pub StandsFor : Result (Symbol × Word × Weight) Refusal → Row Symbol → Type 0
  StandsFor item row = IfOk item (λ x. StandsForRow Stands whole base x row) × IfErr item (λ _. MayRefuse row.symbol)

  module _ {T : Type 0} (rows_left : T → List (Row Symbol)) where
    -- A step from the front of a symbol table gives an item that stands for the first row left, or None if no row is left. `rows_left`
    -- names the rows that are left.
    abbrev pub YieldsRow : T → Option (Result (Symbol × Word × Weight) Refusal) → T → Type 0
    YieldsRow t None u = (rows_left t ≡ []) × (rows_left u ≡ [])
    YieldsRow t (Some (Ok x)) u = (own : Symbol) × Stands own x.0 × (rows_left t ≡ row_of whole base (own, x.1, x.2) ∷ rows_left u)
    YieldsRow t (Some (Err e)) u = (row : Row Symbol) × MayRefuse row.symbol × (rows_left t ≡ row ∷ rows_left u)

    -- a step from the back gives an item that stands for the last row left, or None if no row is left
    abbrev pub YieldsLastRow : T → Option (Result (Symbol × Word × Weight) Refusal) → T → Type 0
    YieldsLastRow t None u = (rows_left t ≡ []) × (rows_left u ≡ [])
    YieldsLastRow t (Some (Ok x)) u =
        (own : Symbol) × Stands own x.0 × (rows_left t ≡ rows_left u ++ row_of whole base (own, x.1, x.2) ∷ [])
    YieldsLastRow t (Some (Err e)) u = (row : Row Symbol) × MayRefuse row.symbol × (rows_left t ≡ rows_left u ++ row ∷ [])

-- the rows from one index up to another
abbrev pub rows_between : {Symbol : Type 0} → ℕ → ℕ → List (Row Symbol) → List (Row Symbol)
rows_between from to rows = drop from (take to rows)
