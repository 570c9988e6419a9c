-- How the words that a model answers stand for rows and entries.
use Rattle.std.specs.Prelude.{◌≡◌, ℕ, ◌+◌, ◌^◌, ◌<◌, ◌≤◌, Bool, true, List, ◌++◌}
use Rattle.std.specs.List.{AllZip, IsDistinct}
use Rattle.constriction_model.specs.Rows.{Row, IsRowOf, symbols_of}

-- the row that a symbol and two words stand for
abbrev pub row_of : {Symbol Word Weight : Type 0} → (Word → ℕ) → (Weight → Word) → Symbol × Word × Weight → Row Symbol
row_of whole base x = record { symbol = x.0; left = whole x.1; weight = whole (base x.2) }

-- the entry that two words stand for
abbrev pub entry_in : {Word Weight : Type 0} → (Word → ℕ) → (Weight → Word) → Word × Weight → ℕ × ℕ
entry_in whole base x = (whole x.0, whole (base x.1))

-- a row with quantiles, all below 2 ^ precision
abbrev pub LiesWithin : {Symbol : Type 0} → ℕ → Row Symbol → Type 0
LiesWithin precision r = (0 < r.weight) × (r.left + r.weight ≤ 2 ^ precision)

-- ---- symbols of answers: `Stands s t` says that an answer may have the symbol t for a row with the symbol s. In models that answer
-- clones, Stands is what the symbols' type says of a clone; in others it is equality.

module _ {Symbol Word Weight : Type 0} (Stands : Symbol → Symbol → Type 0) (whole : Word → ℕ) (base : Weight → Word) where
  -- the answer stands for the row: it has the row's numbers, and its symbol stands for the row's own
  abbrev pub StandsForRow : Symbol × Word × Weight → Row Symbol → Type 0
  StandsForRow x r = (own : Symbol) × Stands own x.0 × (row_of whole base (own, x.1, x.2) ≡ r)

  -- the answer to the quantile q stands for the row that holds q
  abbrev pub AnswersQuantile : List (Row Symbol) → ℕ → Symbol × Word × Weight → Type 0
  AnswersQuantile rows q x = (own : Symbol) × Stands own x.0 × IsRowOf rows q (row_of whole base (own, x.1, x.2))

-- an answer to the quantile q may be refused, since a clone of its row's symbol may be
abbrev pub RowMayBeRefused : {Symbol : Type 0} → (Symbol → Type 0) → List (Row Symbol) → ℕ → Type 0
RowMayBeRefused {Symbol} MayRefuse rows q = (r : Row Symbol) × IsRowOf rows q r × MayRefuse r.symbol

-- The rows `made` stand for the others: they are as many, in the same order, with the same left cumulatives and weights, and each symbol
-- stands for the other row's symbol.
abbrev pub StandForRows : {Symbol : Type 0} → (Symbol → Symbol → Type 0) → List (Row Symbol) → List (Row Symbol) → Type 0
StandForRows Stands made rows =
    AllZip (λ m r. Stands r.symbol m.symbol × (m.left ≡ r.left) × (m.weight ≡ r.weight)) made rows

-- The rows `made` stand for the others, and no two of their symbols are equal.
abbrev pub StandApart : {Symbol : Type 0} → (Symbol → Symbol → Bool) → (Symbol → Symbol → Type 0)
    → List (Row Symbol) → List (Row Symbol) → Type 0
StandApart eq Stands made rows = StandForRows Stands made rows × IsDistinct eq (symbols_of made)

-- there are rows that stand for a beginning of these rows, and two of their symbols are equal
abbrev pub ClonesRepeat : {Symbol : Type 0} → (Symbol → Symbol → Bool) → (Symbol → Symbol → Type 0) → List (Row Symbol) → Type 0
ClonesRepeat {Symbol} eq Stands rows =
    (made first rest : List (Row Symbol)) × (rows ≡ first ++ rest) × StandForRows Stands made first × ¬ (IsDistinct eq (symbols_of made))

-- clones are the same values
abbrev pub ClonesAreSame : {Symbol : Type 0} → (Symbol → Symbol → Type 0) → Type 0
ClonesAreSame {Symbol} IsClone = (x y : Symbol) → IsClone x y → y ≡ x

-- clones are equal to their originals, by the symbols' own equality
abbrev pub ClonesAreEqual : {Symbol : Type 0} → (Symbol → Symbol → Bool) → (Symbol → Symbol → Type 0) → Type 0
ClonesAreEqual {Symbol} eq IsClone = (x y : Symbol) → IsClone x y → eq x y ≡ true
