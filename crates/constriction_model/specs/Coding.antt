-- Symbols that are coded one after the other, whatever a coder holds.
use Rattle.std.specs.Prelude.{◌≡◌, List, [], ◌∷◌, Bool, IsTrue}

-- the answer stands for a symbol that equals the one asked for
abbrev pub StandsForEqual : {Symbol : Type 0} → (Symbol → Symbol → Type 0) → (Symbol → Symbol → Bool) → Symbol → Symbol → Type 0
StandsForEqual {Symbol} Stands eq symbol answer = (own : Symbol) × IsTrue (eq own symbol) × Stands own answer

-- The symbols, coded in order, lead from the content `first` to the content `last`: each begins with what the one before it leaves.
abbrev pub InTurn : {Symbol Content : Type 0} → (Symbol → Content → Content → Type 0) → List Symbol → Content → Content → Type 0
InTurn Step [] first last = first ≡ last
InTurn {Content = Content} Step (s ∷ ss) first last = (next : Content) × Step s first next × InTurn Step ss next last
