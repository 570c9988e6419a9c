-- Walks whose steps come from both ends.
use Rattle.std.specs.Prelude.{List, [], ◌∷◌, Bool, true, false, Option, Some, None}

-- A step from the front, whose item has the mark `true`, or from the back, whose item has the mark `false`.
module _ {T Item : Type 0} (next next_back : T → Option Item → T → Type 0) where
  abbrev pub EitherStep : T → Option (Bool × Item) → T → Type 0
  EitherStep t (Some (true, item)) u = next t (Some item) u
  EitherStep t (Some (false, item)) u = next_back t (Some item) u
  EitherStep t None u = ⊥

-- the items with a mark, in the order in which they came
abbrev pub marked : {Item : Type 0} → Bool → List (Bool × Item) → List Item
marked mark [] = []
marked true ((true, item) ∷ items) = item ∷ marked true items
marked true ((false, item) ∷ items) = marked true items
marked false ((true, item) ∷ items) = marked false items
marked false ((false, item) ∷ items) = item ∷ marked false items
