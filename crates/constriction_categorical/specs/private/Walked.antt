-- What a walk through rows gave, if no item was a refusal.
use Rattle.std.specs.Prelude.{List, map, Option, Result, Ok}
use Rattle.std.specs.Iterator.{Drains, Yields}

module _ {Symbol Word Weight Refusal T : Type 0} (steps : T → Option (Result (Symbol × Word × Weight) Refusal) → T → Type 0) (walk : T)
    (Good : List (Symbol × Word × Weight) → Type 0) where
  -- the walk went to its end, and the rows that it gave are good
  abbrev pub WalkedGood : Type 0
  WalkedGood = (xs : List (Symbol × Word × Weight)) × Drains steps walk (map Ok xs) × Good xs

  -- the rows that the walk gave so far are not good
  abbrev pub WalkedBad : Type 0
  WalkedBad = (xs : List (Symbol × Word × Weight)) × (u : T) × Yields steps walk (map Ok xs) u × ¬ (Good xs)
