-- Symbols that are coded one after the other, each in a state, which says its entry. A symbol leads to the next state. If models are known
-- beforehand, the state is the list of those that are left; if they are learned, it is what was learned; of one model there is one state.
use Rattle.std.specs.Prelude.{◌≡◌, ℕ, List, [], ◌∷◌, Bool, Option}
use Rattle.constriction_model.specs.Rows.{Row, RowsTile, entry_of}
use Rattle.constriction_coders.specs.Spans.{IsMessageOf}

module _ {State Symbol : Type 0} where
  -- the symbols, each with the state in which it is coded
  abbrev pub placed : (State → Symbol → State) → State → List Symbol → List (State × Symbol)
  placed next state [] = []
  placed next state (symbol ∷ symbols) = (state, symbol) ∷ placed next (next state symbol) symbols

  -- the entry of a symbol in its state
  abbrev pub entry_at : (State → Symbol → Option (ℕ × ℕ)) → State × Symbol → Option (ℕ × ℕ)
  entry_at entry place = entry place.0 place.1

  -- these are the words of these symbols in a range coder, the first one in the first state
  abbrev pub IsMessageFrom : (entry : State → Symbol → Option (ℕ × ℕ)) (next : State → Symbol → State) (precision : ℕ) (first : State)
      (symbols : List Symbol) (words : List ℕ) → Type 0
  IsMessageFrom entry next precision first symbols words =
      IsMessageOf (entry_at entry) precision (placed next first symbols) words

-- the entry of a symbol by the model that is given with it
abbrev pub entry_by : {Symbol Model : Type 0} → (Symbol → Symbol → Bool) → (Model → List (Row Symbol)) → Symbol × Model → Option (ℕ × ℕ)
entry_by eq rows pair = entry_of eq (rows pair.1) pair.0

-- a symbol is decoded by the rows of its state, which tile the quantiles and have its entries
pub record IsDecodedAt {State Symbol Content : Type 0} (eq : Symbol → Symbol → Bool) (entry : State → Symbol → Option (ℕ × ℕ))
    (rows : State → List (Row Symbol)) (precision : ℕ) (Step : List (Row Symbol) → Symbol → Content → Content → Type 0)
    (place : State × Symbol) (old new : Content) : Type 0 where
  pub tile : RowsTile 32 precision (rows place.0)
  pub alike : (symbol : Symbol) → entry place.0 symbol ≡ entry_of eq (rows place.0) symbol
  pub step : Step (rows place.0) place.1 old new
