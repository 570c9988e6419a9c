-- What the laws of models are about: the items of a walk, the row of a quantile, and symbols with their offsets.
use Rattle.std.specs.Prelude.{◌≡◌, ℕ, ◌+◌, ◌-◌, ◌^◌, ◌<◌, ◌≤◌, Bool, true, List, map, Contains, Option, Some, Result, Ok, IfOk}
use Rattle.std.specs.List.{AllZip}
use Rattle.constriction_model.specs.Rows.{Row, IsRowOf}
use Rattle.constriction_model.specs.Model.{row_of, LiesWithin, StandsForRow, StandForRows, ClonesAreSame}
use Rattle.constriction_model.specs.Tables.{StandsFor}

module _ {Symbol Word Weight Refusal : Type 0} (Stands : Symbol → Symbol → Type 0) (MayRefuse : Symbol → Type 0) (whole : Word → ℕ)
    (base : Weight → Word) where
  -- The items stand for the rows, one by one and in order, a refusal only for a row whose symbol's clone may be refused. Items without a
  -- refusal are rows that stand for these rows, and are these rows if clones are the same values.
  pub record AreRows (items : List (Result (Symbol × Word × Weight) Refusal)) (rows : List (Row Symbol)) : Type 0 where
    pub stand : AllZip (StandsFor Stands MayRefuse whole base) items rows
    pub unrefused : (xs : List (Symbol × Word × Weight)) → items ≡ map Ok xs → StandForRows Stands (map (row_of whole base) xs) rows
    pub exact : ClonesAreSame Stands → (xs : List (Symbol × Word × Weight)) → items ≡ map Ok xs → map (row_of whole base) xs ≡ rows

  -- The row r of the quantile q is in the symbol table: an item stands for it, and each item that holds q does. If clones are the same
  -- values, an answer with this row is that item, and each item that holds q.
  pub record IsInTable (items : List (Result (Symbol × Word × Weight) Refusal)) (q : ℕ) (r : Row Symbol) : Type 0 where
    pub item : Result (Symbol × Word × Weight) Refusal
    pub among : Contains items item
    pub stands : StandsFor Stands MayRefuse whole base item r
    pub alone : (y : Symbol × Word × Weight) → Contains items (Ok y) → whole y.1 ≤ q → q < whole y.1 + whole (base y.2)
        → StandsForRow Stands whole base y r
    pub exact : ClonesAreSame Stands → (x : Symbol × Word × Weight) → row_of whole base x ≡ r
        → IfOk item (λ y. y ≡ x)
        × ((y : Symbol × Word × Weight) → Contains items (Ok y) → whole y.1 ≤ q → q < whole y.1 + whole (base y.2) → y ≡ x)

-- The quantile q has one row: it is among the rows, it ends at 2 ^ precision or before, so its weight is at most that, and no other row
-- holds q.
pub record HasOneRow {Symbol : Type 0} (precision : ℕ) (rows : List (Row Symbol)) (q : ℕ) : Type 0 where
  pub row : Row Symbol
  pub found : IsRowOf rows q row
  pub within : LiesWithin precision row
  pub at_most : row.weight ≤ 2 ^ precision
  pub alone : (other : Row Symbol) → IsRowOf rows q other → other ≡ row

-- q is the quantile of a symbol and an offset: the symbol has an entry, the offset is below its weight, and q is its left cumulative
-- plus the offset
pub record IsQuantileAt {Symbol : Type 0} (entry : Symbol → Option (ℕ × ℕ)) (s : Symbol) (offset q : ℕ) : Type 0 where
  pub left : ℕ
  pub weight : ℕ
  pub known : entry s ≡ Some (left, weight)
  pub below : offset < weight
  pub sum : q ≡ left + offset

-- The pairs of a symbol that has an entry and an offset below its weight correspond one to one to the quantiles below 2 ^ precision, if
-- equal symbols count as one.
pub record IsOneToOne {Symbol : Type 0} (eq : Symbol → Symbol → Bool) (entry : Symbol → Option (ℕ × ℕ)) (precision : ℕ)
    (rows : List (Row Symbol)) : Type 0 where
  -- each quantile has a row
  pub has_row : (q : ℕ) → q < 2 ^ precision → (r : Row Symbol) × IsRowOf rows q r
  -- the symbol of this row has the entry of the row, and with the quantile's distance from the left cumulative it gives the quantile back
  pub there : (q : ℕ) (r : Row Symbol) → IsRowOf rows q r
      → (entry r.symbol ≡ Some (r.left, r.weight)) × IsQuantileAt entry r.symbol (q - r.left) q
  -- the quantile of a pair is below 2 ^ precision
  pub in_range : (s : Symbol) (offset q : ℕ) → IsQuantileAt entry s offset q → q < 2 ^ precision
  -- the row of this quantile has an equal symbol, the entry of the pair's symbol, and the offset
  pub back : (s : Symbol) (offset q : ℕ) (r : Row Symbol) → IsQuantileAt entry s offset q → IsRowOf rows q r
      → (eq r.symbol s ≡ true) × (entry s ≡ Some (r.left, r.weight)) × (offset ≡ q - r.left)
  -- two pairs with the same quantile have equal symbols and the same offset
  pub one : (s t : Symbol) (m n q : ℕ) → IsQuantileAt entry s m q → IsQuantileAt entry t n q → (eq s t ≡ true) × (m ≡ n)
  -- equal symbols have the same entry, and so the same quantile at the same offset
  pub same : (s t : Symbol) → eq s t ≡ true → entry s ≡ entry t
