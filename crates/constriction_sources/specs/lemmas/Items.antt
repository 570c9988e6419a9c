-- The steps of sources over iterators meet the laws of sources. The impls cite these, and a caller's own may.
use Rattle.std.specs.Prelude.{◌≡◌, ℕ, suc, zero, ◌+◌, List, [], ◌∷◌, length, Bool, true, false, Option, Some, None, Result, Ok, Err, MatchBool, MatchOption, All}
use Rattle.std.specs.Iterator.{AlwaysYields, Count, size, count_unless}
use Rattle.std.proofs.Common.{sym, ap, subst, refl, arith}
use Rattle.std.proofs.lemmas.List.Elements.{All-nil, All-cons}
use Rattle.constriction_sources.specs.Source.{ReadsUpcoming, CountsRead, GivesAnswers}
use Rattle.constriction_sources.specs.Items.{item_of, GivesWord, IsCount, CountsDown, EndIsForGood}

-- an iterator inside a state, which is not asked again after its first end
module _ {I S A : Type 0} (steps : I → Option A → I → Type 0) (done : S → Bool) (source : S → I) where
  abbrev pub Fused : S → Option A → S → Type 0
  Fused s o t = MatchBool (done s) (o ≡ None) (steps (source s) o (source t)) × MatchOption o (done t ≡ true) (λ _. done t ≡ false)

  -- the upcoming words, if the iterator's contract fixes them
  abbrev pub Tells : S → List A → Type 0
  Tells = AlwaysYields Fused (λ w. w)

  after-end : (s : S) (o : Option A) (t : S) → done s ≡ true → Fused s o t → (o ≡ None) × (done t ≡ true)
  after-end s None t d h = (refl, h.1)
  after-end s (Some x) t d h =
      let none : Some x ≡ None = subst (λ (b : Bool). MatchBool b (Some x ≡ None) (steps (source s) (Some x) (source t))) d h.0 in
      absurd (let e = none in cc)

  no-more : (t : S) → done t ≡ true → (x : A) (u : S) → ¬ (Fused t (Some x) u)
  no-more t d x u h = let e = (after-end t (Some x) u d h).0 in absurd (let n : Some x ≡ None = e in cc)

  known-read : (s : S) (o : Option A) (t : S) → Fused s o t → (words : List A) → Tells s words
      → MatchOption o ((words ≡ []) × Tells t []) (λ w. (rest : List A) × (words ≡ w ∷ rest) × Tells t rest)
  known-read s None t h [] g = (refl, no-more t h.1)
  known-read s None t h (y ∷ ys) g = absurd (g.0 t h)
  known-read s (Some w) t h [] g = absurd (g w t h)
  known-read s (Some w) t h (y ∷ ys) g = let k = g.1 w t h in (ys, ap (λ x. x ∷ ys) (sym k.0), k.1)

  -- a read answers the upcoming words in order
  pub word-upcoming : {E : Type 0} (s : S) (r : Result (Option A) E) (t : S) → GivesWord Fused s r t
      → (words : List A) → Tells s words → ReadsUpcoming Tells words r t
  word-upcoming s (Ok o) t h words g = known-read s o t h words g
  word-upcoming s (Err e) t h words g = absurd h

  not-ended : (s : S) (o : Option A) (t : S) → done s ≡ false → Fused s o t → steps (source s) o (source t)
  not-ended s o t d h = subst (λ (b : Bool). MatchBool b (o ≡ None) (steps (source s) o (source t))) d h.0

  -- the words that an iterator's contract fixes are the upcoming words of the source over it
  pub tells-new : (s : S) (words : List A) → done s ≡ false → AlwaysYields steps (λ w. w) (source s) words → Tells s words
  tells-new s [] d g = λ x t h. g x (source t) (not-ended s (Some x) t d h)
  tells-new s (w ∷ ws) d g = (
    (λ t h. g.0 (source t) (not-ended s None t d h)),
    (λ x t h. let k = g.1 x (source t) (not-ended s (Some x) t d h) in (k.0, tells-new t ws h.1 k.1)),
  )

  -- no words are to come after the end
  pub none-upcoming : (t : S) → done t ≡ true → (words : List A) → Tells t words → words ≡ []
  none-upcoming t d [] g = refl
  none-upcoming t d (w ∷ ws) g =
      let none : Option A = None in
      absurd (g.0 t (subst (λ (b : Bool). MatchBool b (none ≡ None) (steps (source t) none (source t))) (sym d) refl, d))

  -- a read after the end answers None
  word-end : {E : Type 0} (s : S) (r : Result (Option A) E) (t : S) → done s ≡ true → GivesWord Fused s r t
      → (r ≡ Ok None) × (done t ≡ true)
  word-end s (Ok o) t d h = let k = after-end s o t d h in (ap Ok k.0, k.1)
  word-end s (Err e) t d h = absurd h

  words-end : {E : Type 0} (t u : S) (later : List (Result (Option A) E)) → done t ≡ true → GivesAnswers (GivesWord Fused) t later u
      → All (λ r. r ≡ Ok None) later
  words-end t u [] d h = All-nil (λ r. r ≡ Ok None)
  words-end t u (r ∷ rs) d (j, g, k) =
      let here = word-end t r j d g in All-cons (λ q. q ≡ Ok None) r rs here.0 (words-end j u rs here.1 k)

  -- a source over words that has ended gives no word later
  pub word-end-is-for-good : {E : Type 0} → EndIsForGood {E = E} (GivesWord Fused)
  word-end-is-for-good s t u later h k = words-end t u later h.1 k

  module _ {W : Type 0} (left : S → ℕ) (tells : S → List W → Type 0) (none_left : (t : S) → done t ≡ true → left t ≡ 0)
      (none_upcoming : (t : S) → done t ≡ true → (words : List W) → tells t words → words ≡ []) where
    count-of : (n : ℕ) (s : S) → CountsDown Fused left tells n s → IsCount Fused left tells n s
    count-of zero s c = c.0
    count-of (suc n) s c = c.0

    count-end : (t : S) → done t ≡ true → CountsDown Fused left tells 0 t
    count-end t d = ((none_left t d, λ words h. sym (ap length (none_upcoming t d words h))), no-more t d)

    count-item : (n : ℕ) (s : S) (o : Option A) (t : S) → CountsDown Fused left tells n s → Fused s o t
        → MatchOption o ((n ≡ 0) × (left t ≡ 0)) (λ _. n ≡ left t + 1) × CountsDown Fused left tells (left t) t
    count-item zero s None t c h =
        ((refl, none_left t h.1), subst (λ n. CountsDown Fused left tells n t) (sym (none_left t h.1)) (count-end t h.1))
    count-item zero s (Some x) t c h = absurd (c.1 x t h)
    count-item (suc n) s None t c h = absurd (c.1 t h)
    count-item (suc n) s (Some x) t c h =
        let later = c.2 x t h in
        let is : left t ≡ n = (count-of n t later).0 in
        (omega (arith, is), subst (λ k. CountsDown Fused left tells k t) (sym is) later)

    -- a read of words takes an item, if the count is exact
    pub word-counted : {E : Type 0} (s : S) (r : Result (Option A) E) (t : S) → CountsDown Fused left tells (left s) s
        → GivesWord Fused s r t → CountsRead (left s) r (left t) × CountsDown Fused left tells (left t) t
    word-counted s (Ok None) t c h = count-item (left s) s None t c h
    word-counted s (Ok (Some w)) t c h = count-item (left s) s (Some w) t c h
    word-counted s (Err e) t c h = absurd h

    -- the upcoming words are as many as the count says
    pub upcoming-counted : (s : S) → CountsDown Fused left tells (left s) s → (words : List W) → tells s words → left s ≡ length words
    upcoming-counted s c = (count-of (left s) s c).1

-- nothing is left after the end
pub none-left : {I S : Type 0} (done : S → Bool) (source : S → I) (remaining : I → Count) (t : S) → done t ≡ true
    → size (count_unless (done t) (remaining (source t))) ≡ 0
none-left done source remaining t d = ap (λ (b : Bool). size (count_unless b (remaining (source t)))) d

-- the same for words and errors
module _ {I S W E : Type 0} (steps : I → Option (Result W E) → I → Type 0) (done : S → Bool) (source : S → I) where
  item-end : (s : S) (r : Result (Option W) E) (t : S) → done s ≡ true → Fused steps done source s (item_of r) t
      → (r ≡ Ok None) × (done t ≡ true)
  item-end s (Ok None) t d h = (refl, h.1)
  item-end s (Ok (Some w)) t d h = absurd (no-more steps done source s d (Ok w) t h)
  item-end s (Err e) t d h = absurd (no-more steps done source s d (Err e) t h)

  items-end : (t u : S) (later : List (Result (Option W) E)) → done t ≡ true
      → GivesAnswers (λ s r u. Fused steps done source s (item_of r) u) t later u → All (λ r. r ≡ Ok None) later
  items-end t u [] d h = All-nil (λ r. r ≡ Ok None)
  items-end t u (r ∷ rs) d (j, g, k) =
      let here = item-end t r j d g in All-cons (λ q. q ≡ Ok None) r rs here.0 (items-end j u rs here.1 k)

  -- the same of a source over results
  pub item-end-is-for-good : EndIsForGood (λ s r t. Fused steps done source s (item_of r) t)
  item-end-is-for-good s t u later h k = items-end t u later h.1 k

  -- each read of a word leaves one less to come
  pub item-counted : (left : S → ℕ) (none_left : (t : S) → done t ≡ true → left t ≡ 0) (s : S) (r : Result (Option W) E) (t : S)
      → CountsDown {W = W} (Fused steps done source) left (λ _ _. ⊥) (left s) s → Fused steps done source s (item_of r) t
      → CountsRead (left s) r (left t) × CountsDown {W = W} (Fused steps done source) left (λ _ _. ⊥) (left t) t
  item-counted left none_left s (Ok None) t c h =
      count-item steps done source left (λ _ _. ⊥) none_left (λ _ _ _ k. absurd k) (left s) s None t c h
  item-counted left none_left s (Ok (Some w)) t c h =
      count-item steps done source left (λ _ _. ⊥) none_left (λ _ _ _ k. absurd k) (left s) s (Some (Ok w)) t c h
  item-counted left none_left s (Err e) t c h =
      count-item steps done source left (λ _ _. ⊥) none_left (λ _ _ _ k. absurd k) (left s) s (Some (Err e)) t c h
