-- The count of a source over an iterator of known length is exact. A caller's proof may cite this for `is_exact`.
use Rattle.std.specs.Prelude.{◌≡◌, ◌<◌, ◌-◌, ℕ, zero, suc, ◌+◌, List, [], ◌∷◌, length, Bool, true, false, cond, Option, Some, None, MatchBool}
use Rattle.std.specs.Iterator.{AlwaysYields, Count, at_most, size, count_unless}
use Rattle.std.specs.Iterator.Adapters.{fuse_source, fuse_done, fuse_steps, copied_source, copied_steps}
use Rattle.std.specs.Option.{option_copied}
use Rattle.std.specs.Range.{range_steps}
use Rattle.std.specs.Slice.Iter.{iter_rest, iter_steps}
use Rattle.std.specs.declared.iter.Copied.{Copied}
use Rattle.std.specs.declared.iter.Fuse.{Fuse}
use Rattle.std.specs.declared.ops.Range.{Range}
use Rattle.std.specs.declared.slice.Iter.{Iter}
use Rattle.std.proofs.Common.{sym, ◌∙◌, ap, refl, arith}
use denote.Ref.{Bor}
use Rattle.constriction_sources.specs.Items.{CountsDown}

-- what `is_exact` says of a source over an iterator that steps by `steps` and has at most `remaining` items
module _ {I A W : Type 0} (steps : I → Option A → I → Type 0) (remaining : I → Count) (tells : Fuse I → List W → Type 0) where
  abbrev pub left_in : Fuse I → ℕ
  left_in s = size (count_unless (fuse_done s) (remaining (fuse_source s)))

  abbrev pub IsExact : Fuse I → Type 0
  IsExact s = CountsDown (fuse_steps steps) left_in tells (left_in s) s

-- an iterator that has `many` items left: it ends only at 0, and each item lowers the number by 1
module _ {I A : Type 0} (steps : I → Option A → I → Type 0) (many : I → ℕ)
    (stops : (i j : I) → steps i None j → many i ≡ 0)
    (goes : (i : I) (x : A) (j : I) → steps i (Some x) j → many i ≡ many j + 1) where
  abbrev counted : I → Count
  counted i = at_most (many i)

  abbrev left : Fuse I → ℕ
  left s = size (count_unless (fuse_done s) (counted (fuse_source s)))

  none_by : (done : Bool) (i j : I) → MatchBool done (let none : Option A = None in none ≡ None) (steps i None j) → cond done 0 (many i) ≡ 0
  none_by true i j h = refl
  none_by false i j h = stops i j h

  -- no item is left at the end
  none_left : (s t : Fuse I) → fuse_steps steps s None t → left s ≡ 0
  none_left s t h = none_by (fuse_done s) (fuse_source s) (fuse_source t) h.0

  one_by : (done after : Bool) (i : I) (x : A) (j : I) → MatchBool done (Some x ≡ None) (steps i (Some x) j) → after ≡ false
      → cond done 0 (many i) ≡ cond after 0 (many j) + 1
  one_by true after i x j h e = absurd (let none = h in cc)
  one_by false after i x j h e = goes i x j h ∙ ap (λ (b : Bool). cond b 0 (many j) + 1) (sym e)

  -- each item lowers the number by 1
  one_less : (s : Fuse I) (x : A) (t : Fuse I) → fuse_steps steps s (Some x) t → left s ≡ left t + 1
  one_less s x t h = one_by (fuse_done s) (fuse_done t) (fuse_source s) x (fuse_source t) h.0 h.1

  module _ {W : Type 0} (tells : Fuse I → List W → Type 0)
      (known_many : (s : Fuse I) (words : List W) → tells s words → left s ≡ length words) where
    counts_down : (n : ℕ) (s : Fuse I) → left s ≡ n → CountsDown (fuse_steps steps) left tells n s
    counts_down zero s e = (
      (e, λ words known. sym e ∙ known_many s words known),
      λ x t h. absurd (let less = one_less s x t h in omega arith),
    )
    counts_down (suc n) s e = (
      (e, λ words known. sym e ∙ known_many s words known),
      λ t h. absurd (let none = none_left s t h in omega arith),
      λ x t h. counts_down n t (let less = one_less s x t h in omega arith),
    )

  -- the count of a source over words and errors is exact
  pub items-exact : (W : Type 0) (s : Fuse I) → IsExact {W = W} steps counted (λ _ _. ⊥) s
  items-exact W s = counts_down {W = W} (λ _ _. ⊥) (λ t words known. absurd known) (left s) s refl

  -- so is the count of a source over words, if the iterator always gives an answer
  module _ (answers : (i : I) → (o : Option A) × (j : I) × steps i o j) where
    abbrev made : I → Bool → Fuse I
    made i done = record { iter = i; done = done }

    going_on : (i : I) (o : Option A) (j : I) → steps i o j → (p : Option A) × (t : Fuse I) × fuse_steps steps (made i false) p t
    going_on i None j h = (None, made j true, (h, refl))
    going_on i (Some x) j h = (Some x, made j false, (h, refl))

    answer_by : (done : Bool) (i : I) → (o : Option A) × (t : Fuse I) × fuse_steps steps (made i done) o t
    answer_by true i = (None, made i true, (refl, refl))
    answer_by false i = let a = answers i in going_on i a.0 a.1 a.2

    abbrev Tells : Fuse I → List A → Type 0
    Tells = AlwaysYields (fuse_steps steps) (λ w. w)

    known_none : (s : Fuse I) (o : Option A) (t : Fuse I) → fuse_steps steps s o t → Tells s [] → left s ≡ 0
    known_none s None t h known = none_left s t h
    known_none s (Some x) t h known = absurd (known x t h)

    known_one : (s : Fuse I) (w : A) (ws : List A) (o : Option A) (t : Fuse I) → fuse_steps steps s o t → Tells s (w ∷ ws)
        → ((u : Fuse I) → Tells u ws → left u ≡ length ws) → left s ≡ length (w ∷ ws)
    known_one s w ws None t h known others = absurd (known.0 t h)
    known_one s w ws (Some x) t h known others =
        let less : left s ≡ left t + 1 = one_less s x t h in
        let rest : left t ≡ length ws = others t (known.1 x t h).1 in
        let goal : left s ≡ suc (length ws) = omega arith in
        goal

    known_many : (s : Fuse I) (words : List A) → Tells s words → left s ≡ length words
    known_many s [] known = let a = answer_by (fuse_done s) (fuse_source s) in known_none s a.0 a.1 a.2 known
    known_many s (w ∷ ws) known =
        let a = answer_by (fuse_done s) (fuse_source s) in known_one s w ws a.0 a.1 a.2 known (λ u. known_many u ws)

    pub words-exact : (s : Fuse I) → IsExact steps counted Tells s
    words-exact s = counts_down Tells known_many (left s) s refl

-- a slice's iterator, copied
module _ {A : Type 0} where
  abbrev Copies : Copied (Iter A) → Option A → Copied (Iter A) → Type 0
  Copies = copied_steps iter_steps

  abbrev pub slice_length : Copied (Iter A) → ℕ
  slice_length i = length (iter_rest (copied_source i))

  slice_stops_at : (i j : Copied (Iter A)) (o : Option (Bor A)) → iter_steps (copied_source i) o (copied_source j)
      → None ≡ option_copied o → slice_length i ≡ 0
  slice_stops_at i j None h e = h.0
  slice_stops_at i j (Some y) h e = absurd (let none = e in cc)

  slice_stops : (i j : Copied (Iter A)) → Copies i None j → slice_length i ≡ 0
  slice_stops i j (o, h, e) = slice_stops_at i j o h e

  slice_goes_at : (i : Copied (Iter A)) (x : A) (j : Copied (Iter A)) (o : Option (Bor A))
      → iter_steps (copied_source i) o (copied_source j) → Some x ≡ option_copied o → slice_length i ≡ slice_length j + 1
  slice_goes_at i x j None h e = absurd (let none = e in cc)
  slice_goes_at i x j (Some y) h e = omega (arith, ap length h)

  slice_goes : (i : Copied (Iter A)) (x : A) (j : Copied (Iter A)) → Copies i (Some x) j → slice_length i ≡ slice_length j + 1
  slice_goes i x j (o, h, e) = slice_goes_at i x j o h e

  slice_answers_at : (i : Copied (Iter A)) (rest : List A) → iter_rest (copied_source i) ≡ rest
      → (o : Option A) × (j : Copied (Iter A)) × Copies i o j
  slice_answers_at i [] e = (None, i, (None, (ap length e, refl), refl))
  slice_answers_at i (x ∷ xs) e =
      let here : Bor (List A) = i.iter.rest in
      let item : Bor A = record { ref_ptr = here.ref_ptr; now = x } in
      (Some x, record { iter = record { rest = record here { now = xs } } }, (Some item, e, refl))

  slice_answers : (i : Copied (Iter A)) → (o : Option A) × (j : Copied (Iter A)) × Copies i o j
  slice_answers i = slice_answers_at i (iter_rest (copied_source i)) refl

  -- a source over the words of a slice knows how many are left
  pub slice-words-exact : (s : Fuse (Copied (Iter A)))
      → IsExact Copies (λ i. at_most (slice_length i)) (AlwaysYields (fuse_steps Copies) (λ w. w)) s
  slice-words-exact = words-exact Copies slice_length slice_stops slice_goes slice_answers

  -- so does one over its items
  pub slice-items-exact : (W : Type 0) (s : Fuse (Copied (Iter A)))
      → IsExact {W = W} Copies (λ i. at_most (slice_length i)) (λ _ _. ⊥) s
  slice-items-exact = items-exact Copies slice_length slice_stops slice_goes

-- a range of unsigned integers
abbrev Counts : Range ℕ → Option ℕ → Range ℕ → Type 0
Counts = range_steps (λ x y. y - x) (λ x y. y ≡ x + 1)

abbrev pub range_length : Range ℕ → ℕ
range_length i = i.end - i.start

range_stops : (i j : Range ℕ) → Counts i None j → range_length i ≡ 0
range_stops i j h = h.1.0

range_goes : (i : Range ℕ) (x : ℕ) (j : Range ℕ) → Counts i (Some x) j → range_length i ≡ range_length j + 1
range_goes i x j (e, (some, is, next)) = omega arith

range_answers_at : (i : Range ℕ) (n : ℕ) → range_length i ≡ n → (o : Option ℕ) × (j : Range ℕ) × Counts i o j
range_answers_at i zero e = (None, i, (refl, (e, refl)))
range_answers_at i (suc n) e =
    let some : 0 < range_length i = omega arith in
    (Some i.start, record { start = i.start + 1; end = i.end }, (refl, (some, refl, refl)))

range_answers : (i : Range ℕ) → (o : Option ℕ) × (j : Range ℕ) × Counts i o j
range_answers i = range_answers_at i (range_length i) refl

-- so does one over a range
pub range-words-exact : (s : Fuse (Range ℕ))
    → IsExact Counts (λ i. at_most (range_length i)) (AlwaysYields (fuse_steps Counts) (λ w. w)) s
range-words-exact = words-exact Counts range_length range_stops range_goes range_answers
