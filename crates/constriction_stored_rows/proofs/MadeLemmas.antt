-- What a constructor says of what its readers were given.
use Rattle.std.specs.Prelude.{◌≡◌, List, Option, Ok, Err}
use Rattle.std.proofs.Common.{subst, inl, inr}
use Rattle.constriction_model.specs.Acceptance.{Reading, ToItsEnd, SoFar, WasReadOf, MayGive}
use Rattle.constriction_stored_rows.specs.private.Given.{GaveBad, GaveBothBad}

-- what is made is not refused
pub made-unrefused : {A E : Type 0} (x : A) (e : E) → Ok x ≡ Err e → ⊥
made-unrefused x e is = cc

module _ {J S A : Type 0} (becomes : J → S → Type 0) (steps : S → Option A → S → Type 0) (from : J) (Good : List A → Type 0) where
  -- what was read from a value is not good, whatever might follow it
  pub bad-read : (it : S) × becomes from it × GaveBad steps it Good
      → (xs : List A) × (reading : Reading) × WasReadOf becomes steps from reading xs
      × ((all : List A) → MayGive reading xs all → ¬ (Good all))
  bad-read (it, here, bad) = elim bad [
    | inl all ↦ (all.0, ToItsEnd, record { iterator = it; became = here; was_read = all.1 }, λ xs is good. all.2 (subst Good is good))
    | inr some ↦ (
      some.0,
      SoFar,
      record { iterator = it; became = here; was_read = (some.1, some.2) },
      λ xs more good. some.3 more.0 (subst Good more.1 good),
    )
  ]

-- what was read from two values is not good, whatever might follow it
abbrev pub BothBad : {A B : Type 0} → (Reading → List A → Type 0) → (Reading → List B → Type 0) → (List A → List B → Type 0) → Type 0
BothBad {A} {B} Read OtherRead Good =
    (xs : List A) × (ys : List B) × (reading other : Reading) × Read reading xs × OtherRead other ys
    × ((all : List A) (others : List B) → MayGive reading xs all → MayGive other ys others → ¬ (Good all others))

module _ {J S A K T B : Type 0} (becomes : J → S → Type 0) (steps : S → Option A → S → Type 0) (from : J)
    (other_becomes : K → T → Type 0) (other_steps : T → Option B → T → Type 0) (other : K) (Good : List A → List B → Type 0) where
  -- what a constructor says of two iterators it says of the values that they were made of
  pub bad-both : (it : S) × becomes from it × (jt : T) × other_becomes other jt × GaveBothBad steps it other_steps jt Good
      → BothBad (WasReadOf becomes steps from) (WasReadOf other_becomes other_steps other) Good
  bad-both (it, here, jt, there, (xs, ys, reading, other_reading, was, other_was, never)) = (
    xs,
    ys,
    reading,
    other_reading,
    record { iterator = it; became = here; was_read = was },
    record { iterator = jt; became = there; was_read = other_was },
    never,
  )
