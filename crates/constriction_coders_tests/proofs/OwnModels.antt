-- Items that an iterator gave, where its states show what is left, and symbols beside the models that they are decoded by.
use Rattle.std.proofs.Common.{◌≡◌, List, [], ◌∷◌, ◌++◌, Option, Some, None, length, drop, length-drop, ap, sym, ◌∙◌, ◌≤◌, arith}
use Rattle.std.specs.Iterator.{Yields, YieldsFirst, YieldsLast}
use Rattle.std.specs.List.{AllZip, zip}
use Rattle.std.specs.Vec.Iter.{into_iter_items, into_iter_steps, into_iter_steps_back}
use Rattle.std.specs.declared.vec.IntoIter.{IntoIter}
use Rattle.std.proofs.lemmas.List.{nil_from_length}

module _ {Item I : Type 0} (steps : I → Option Item → I → Type 0) where
  -- if each state shows what is left, that is what was given
  pub all-given : (left : I → List Item) → ((s : I) (answer : Option Item) (t : I) → steps s answer t → YieldsFirst left s answer t)
      → (given : List Item) (s t u : I) → Yields steps s given t → steps t None u → left s ≡ given
  all-given left shows [] s t u same end = ap left same ∙ (shows t None u end).0
  all-given left shows (x ∷ xs) s t u (j, step, others) end =
      shows s (Some x) j step ∙ ap (λ ys. x ∷ ys) (all-given left shows xs j t u others end)

-- a `Vec` that is taken apart shows what is left of it
pub vec-shows : {X Z : Type 0} (s : IntoIter X Z) (answer : Option X) (t : IntoIter X Z) → into_iter_steps s answer t
    → YieldsFirst into_iter_items s answer t
vec-shows s (Some x) t step = step.0
vec-shows s None t step = (nil_from_length _ (sym s.rest.ok.0 ∙ step.0), nil_from_length _ (sym t.rest.ok.0 ∙ step.1))

-- the iterator of a vector, taken from its back, gives its last item
pub vec-shows-back : {X Z : Type 0} (s : IntoIter X Z) (answer : Option X) (t : IntoIter X Z) → into_iter_steps_back s answer t
    → YieldsLast into_iter_items s answer t
vec-shows-back s (Some x) t step = step
vec-shows-back s None t step = (nil_from_length _ (sym s.rest.ok.0 ∙ step.0), nil_from_length _ (sym t.rest.ok.0 ∙ step.1))

module _ {A B : Type 0} where
  -- a list that stands beside the front of another one grows by an item
  pub beside-more : (xs : List A) (x : A) (ys : List B) (y : B) (rest : List B) → drop (length xs) ys ≡ y ∷ rest
      → (zip (xs ++ x ∷ []) ys ≡ zip xs ys ++ (x, y) ∷ []) × (drop (length (xs ++ x ∷ [])) ys ≡ rest)
      × (length (xs ++ x ∷ []) ≤ length ys)
  beside-more [] x [] y rest e = cc
  beside-more [] x (z ∷ zs) y rest e =
      let first : z ≡ y = cc in
      let others : zs ≡ rest = cc in
      (ap (λ w. (x, w) ∷ []) first, others, omega arith)
  beside-more (a ∷ xs) x [] y rest e = cc
  beside-more (a ∷ xs) x (z ∷ zs) y rest e =
      let more = beside-more xs x zs y rest e in (ap (λ ps. (a, z) ∷ ps) more.0, more.1, omega (arith, more.2))

  -- it stands beside all of it
  pub beside-all : (xs : List A) (ys : List B) (rest : List B) → drop (length xs) ys ≡ rest → length rest ≡ 0 → length xs ≤ length ys
      → length xs ≡ length ys
  beside-all xs ys rest e none few = omega (arith, ap length e, length-drop (length xs) ys, none, few)

module _ {A B C : Type 0} where
  -- what holds of a list and the second halves of pairs, and what holds of it and the first halves
  pub beside-seconds : (R : A → C → Type 0) (xs : List A) (bs : List B) (cs : List C) → length bs ≡ length cs → AllZip R xs cs
      → AllZip (λ x p. R x p.1) xs (zip bs cs)
  beside-seconds R [] [] [] e h = tt
  beside-seconds R [] (b ∷ bs) [] e h = tt
  beside-seconds R [] bs (c ∷ cs) e h = absurd h
  beside-seconds R (x ∷ xs) bs [] e h = absurd h
  beside-seconds R (x ∷ xs) [] (c ∷ cs) e h = absurd (omega (arith, e))
  beside-seconds R (x ∷ xs) (b ∷ bs) (c ∷ cs) e h = (h.0, beside-seconds R xs bs cs (omega (arith, e)) h.1)

  -- what holds of the first parts of pairs holds of the list of these parts
  pub beside-firsts : (R : A → B → Type 0) (xs : List A) (bs : List B) (cs : List C) → length bs ≡ length cs
      → AllZip (λ x p. R x p.0) xs (zip bs cs) → AllZip R xs bs
  beside-firsts R [] [] cs e h = tt
  beside-firsts R [] (b ∷ bs) [] e h = absurd (omega (arith, e))
  beside-firsts R [] (b ∷ bs) (c ∷ cs) e h = absurd h
  beside-firsts R (x ∷ xs) [] cs e h = absurd h
  beside-firsts R (x ∷ xs) (b ∷ bs) [] e h = absurd h
  beside-firsts R (x ∷ xs) (b ∷ bs) (c ∷ cs) e h = (h.0, beside-firsts R xs bs cs (omega (arith, e)) h.1)
