-- What iterators gave to the readers of this crate.
use Rattle.std.specs.Prelude.{◌⊎◌, List, ◌++◌, Option}
use Rattle.std.specs.Iterator.{Drains, Yields}
use Rattle.constriction_model.specs.Acceptance.{Reading, WasRead, MayGive}

module _ {S A : Type 0} (steps : S → Option A → S → Type 0) (it : S) (Good : List A → Type 0) where
  -- the iterator was read to its end, and what it gave is good
  abbrev pub GaveGood : Type 0
  GaveGood = (xs : List A) × Drains steps it xs × Good xs

  -- what the iterator gave is not good: all of it, or each list that begins with what was read from it
  abbrev pub GaveBad : Type 0
  GaveBad =
      ((xs : List A) × Drains steps it xs × ¬ (Good xs))
      ⊎ ((xs : List A) × (t : S) × Yields steps it xs t × ((ys : List A) → ¬ (Good (xs ++ ys))))

module _ {S T A B : Type 0} (steps : S → Option A → S → Type 0) (it : S) (other_steps : T → Option B → T → Type 0) (other : T)
    (Good : List A → List B → Type 0) where
  -- two iterators were read to their ends, and what they gave is good
  abbrev pub GaveBothGood : Type 0
  GaveBothGood = (xs : List A) × (ys : List B) × Drains steps it xs × Drains other_steps other ys × Good xs ys

  -- what two iterators gave is not good, whatever they would give after what was read from them
  abbrev pub GaveBothBad : Type 0
  GaveBothBad = (xs : List A) × (ys : List B) × (read other_read : Reading)
      × WasRead steps it read xs × WasRead other_steps other other_read ys
      × ((all : List A) (others : List B) → MayGive read xs all → MayGive other_read ys others → ¬ (Good all others))
