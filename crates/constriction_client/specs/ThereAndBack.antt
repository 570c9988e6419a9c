-- There and back: the words of items, read by a model with the same entries, give these items.
use Rattle.std.specs.Prelude.{◌≡◌, ℕ, Bool, List, Option, IsTrue}
use Rattle.std.specs.List.{AllZip}
use Rattle.constriction_model.specs.Model.{ClonesAreEqual}
use Rattle.constriction_model.specs.Rows.{Row, RowsTile, entry_of}
use Rattle.constriction_client.specs.declared.quantiles.QuantileFault.{QuantileFault}
use Rattle.constriction_client.specs.Quantiles.{AreQuantiles, ArePairs, IsFaultOf, StopsAmong}

-- the pairs are the items, one by one: their symbols are equal, and their offsets the same
abbrev pub AreItems : {Symbol Word : Type 0} → (Symbol → Symbol → Bool) → List (Symbol × Word) → List (Symbol × Word)
    → Type 0
AreItems eq items pairs = AllZip (λ item pair. IsTrue (eq pair.0 item.0) × (pair.1 ≡ item.1)) items pairs

-- The pairs stand for the items, one by one: each symbol stands for one that is equal to the item's, and the offsets are the same.
pub record StandForItems {Symbol Word : Type 0} (Stands : Symbol → Symbol → Type 0) (eq : Symbol → Symbol → Bool)
    (items pairs : List (Symbol × Word)) : Type 0 where
  pub stand : AllZip (λ item pair. ((own : Symbol) × IsTrue (eq own item.0) × Stands own pair.0) × (pair.1 ≡ item.1)) items pairs
  pub equal : ClonesAreEqual eq Stands → AreItems eq items pairs

-- The words of items, read in an order, give pairs that are the items in that order. Nothing is required of the equality of symbols, and
-- rows may repeat a symbol.
abbrev pub ReadsBack : (Symbol Word : Type 0) → (List Word → List Word) → (List (Symbol × Word) → List (Symbol × Word)) → Type 0
ReadsBack Symbol Word words_in_order items_in_order =
    (eq : Symbol → Symbol → Bool) (entry : Symbol → Option (ℕ × ℕ)) (whole : Word → ℕ) (bits precision : ℕ)
    (rows : List (Row Symbol)) (items pairs : List (Symbol × Word)) (words : List Word)
    → RowsTile bits precision rows → ((a b : Word) → whole a ≡ whole b → a ≡ b)
    → ((s : Symbol) → entry s ≡ entry_of eq rows s)
    → AreQuantiles entry whole items words → ArePairs (λ s t. t ≡ s) rows whole (words_in_order words) pairs
    → AreItems eq (items_in_order items) pairs

-- one of the items has no quantile for this reason, and all items before it have one
abbrev pub HasFault : {Symbol Word : Type 0} → (Symbol → Option (ℕ × ℕ)) → (Word → ℕ) → List (Symbol × Word) → QuantileFault → Type 0
HasFault {Word = Word} entry whole items fault =
    StopsAmong items (λ before item. (words : List Word) × AreQuantiles entry whole before words × IsFaultOf entry whole item fault)
