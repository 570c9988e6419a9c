-- Filling a cdf row by row.
use Rattle.std.specs.Prelude.{◌≡◌, ℕ, ◌+◌, ◌-◌, ◌%◌, ◌^◌, ◌<◌, ◌≤◌, ◌⊎◌, Bool, true, false, List, [], ◌∷◌, ◌++◌, length, map, sum, All, Option, Some, None}
use Rattle.std.proofs.Common.{Result, Ok, Err, suc, zero, refl, ap, sym, ◌∙◌, arith, inl, inr}
use Rattle.std.proofs.Math.Nat.{mod-eq_of_lt, mod_self}
use Rattle.std.proofs.lemmas.Bool.{cases_lt}
use Rattle.std.proofs.lemmas.List.{map-append, length-append, length-map, length_push, get_or_append_left}
use Rattle.std.proofs.lemmas.List.Elements.{All-push, All-nil, All-contains, Contains-append_left, Contains-push}
use Rattle.std.proofs.lemmas.List.Sums.{sum_by-cons, sum_by-append, sum_by_push}
use Rattle.constriction_model.specs.Acceptance.{IsAccepted, completed, ToItsEnd, SoFar}
use Rattle.constriction_model.specs.lemmas.Walks.{yields-more}
use Rattle.constriction_stored_rows.specs.Stored.{lefts_from, total_of}
use Rattle.constriction_stored_rows.specs.private.Filling.{AreNotTaken, IsBegun, IsFilled, IsRowEnd}
use Rattle.constriction_stored_rows.specs.private.Given.{GaveGood}
use Rattle.constriction_stored_rows.specs.Ends.{FillsAll, IsNoLast, IsNoneInferred, IsCdfOf}
use Rattle.constriction_model.specs.declared.error.ModelError.{ModelError}
use Rattle.constriction_model.specs.declared.error.ModelError.TheVariants.{InvalidTable, OutOfMemory}

-- results that differ
pub accepted≢refused : {T : Type 0} (x : T) (error : ModelError) → Ok x ≡ Err error → ⊥
accepted≢refused x error e = cc

-- no result is refused in two ways
pub table≢memory : {T : Type 0} (r : Result T ModelError) → r ≡ Err InvalidTable → r ≡ Err OutOfMemory → ⊥
table≢memory r table memory = cc

-- one left cumulative more
pub lefts_from-push : (l : ℕ) (ws : List ℕ) (w : ℕ) → lefts_from l (ws ++ w ∷ []) ≡ lefts_from l ws ++ (l + sum ws) ∷ []
lefts_from-push l [] w = ap (λ x. x ∷ []) (omega arith)
lefts_from-push l (v ∷ ws) w =
    ap (λ xs. l ∷ xs)
    (lefts_from-push (l + v) ws w
    ∙ ap (λ x. lefts_from (l + v) ws ++ x ∷ []) (omega (arith, sum_by-cons (λ x. x) v ws)))

-- a row that is taken after others
pub lefts-taken : {W : Type 0} (whole : W → ℕ) (lefts more : List W) (left : W) (ws : List ℕ) (w : ℕ) → more ≡ lefts ++ left ∷ []
    → map whole lefts ≡ lefts_from 0 ws → whole left ≡ sum ws → map whole more ≡ lefts_from 0 (ws ++ w ∷ [])
lefts-taken whole lefts more left ws w pushed before is =
    let sums : whole left ≡ 0 + sum ws = omega (arith, is) in
    ap (map whole) pushed ∙ map-append whole lefts (left ∷ []) ∙ ap (λ xs. xs ++ whole left ∷ []) before
    ∙ ap (λ n. lefts_from 0 ws ++ n ∷ []) sums ∙ sym (lefts_from-push 0 ws w)

-- completed weights are at least as many as the given ones
pub length-completed : (precision : ℕ) (infer : Bool) (ws : List ℕ) → length ws ≤ length (completed precision infer ws)
length-completed precision false ws = omega arith
length-completed precision true ws = omega (arith, length_push ws (2 ^ precision - sum ws))

module _ {W : Type 0} (whole : W → ℕ) (bits precision : ℕ) where
  pub filled-none : (z : W) → whole z ≡ 0 → 0 < 2 ^ precision → IsFilled whole bits precision [] (Some z)
  filled-none z e up = record {
    positive = All-nil (λ w. 0 < w);
    fit = All-nil (λ w. w < 2 ^ bits);
    is = e;
    below = rw e up;
  }

  pub filled-more : (ws : List W) (left w : W) (end : Option W) → IsFilled whole bits precision ws (Some left)
      → IsRowEnd whole bits precision left w end → IsFilled whole bits precision (ws ++ w ∷ []) end
  filled-more ws left w end f r = record {
    positive = rw map-append (All-push (λ x. 0 < x) (map whole ws) (whole w) f.positive r.positive);
    fit = rw map-append (All-push (λ x. x < 2 ^ bits) (map whole ws) (whole w) f.fit r.fits);
    is =
        r.is ∙ (let e : whole left + whole w ≡ sum (map whole ws) + whole w = omega (arith, f.is) in e)
        ∙ sym (ap sum (map-append whole ws (w ∷ [])) ∙ sum_by_push (λ x. x) (map whole ws) (whole w));
    below = r.below;
  }

  -- accepted weights are positive, and add up to at most 2 ^ precision
  accepted-positive : (infer : Bool) (xs : List ℕ) → IsAccepted bits precision (completed precision infer xs) → All (λ w. 0 < w) xs
  accepted-positive false xs a = a.tiles.positive
  accepted-positive true xs a = λ k d h.
      let long : k < length (xs ++ (2 ^ precision - sum xs) ∷ []) = simp length-append (omega arith) in
      rw (← get_or_append_left xs ((2 ^ precision - sum xs) ∷ []) d k h) (a.tiles.positive k d long)

  accepted-sum : (infer : Bool) (xs : List ℕ) → IsAccepted bits precision (completed precision infer xs) → sum xs ≤ 2 ^ precision
  accepted-sum false xs a = omega (arith, a.tiles.total)
  accepted-sum true xs a = omega (arith, a.tiles.total, sum_by_push (λ x. x) xs (2 ^ precision - sum xs))

  pub bad-more : (infer : Bool) (ws more : List W) (w : W) → (whole w ≡ 0) ⊎ (2 ^ precision < sum (map whole ws) + whole w)
      → ¬ (IsAccepted bits precision (completed precision infer (map whole ((ws ++ w ∷ []) ++ more))))
  bad-more infer ws more w why a =
      let xs : List ℕ = map whole ((ws ++ w ∷ []) ++ more) in
      let split : xs ≡ (map whole ws ++ whole w ∷ []) ++ map whole more =
      map-append whole (ws ++ w ∷ []) more ∙ ap (λ ys. ys ++ map whole more) (map-append whole ws (w ∷ [])) in
      let total : sum xs ≡ (sum (map whole ws) + whole w) + sum (map whole more) =
      ap sum split ∙ sum_by-append (λ x. x) (map whole ws ++ whole w ∷ []) (map whole more)
      ∙ ap (λ n. n + sum (map whole more)) (sum_by_push (λ x. x) (map whole ws) (whole w)) in
      let positive : All (λ x. 0 < x) ((map whole ws ++ whole w ∷ []) ++ map whole more) =
      rw (← split) (accepted-positive infer xs a) in
      let some : 0 < whole w =
      All-contains (λ x. 0 < x) _ (whole w) positive
      (Contains-append_left _ (map whole more) (whole w) (Contains-push (map whole ws) (whole w))) in
      elim why [ inl none ↦ omega arith | inr much ↦ omega (arith, accepted-sum infer xs a) ]

  good-given : (ws : List W) → IsFilled whole bits precision ws None → IsAccepted bits precision (map whole ws)
  good-given ws f = record { tiles = record { positive = f.positive; total = sym f.is }; fit = f.fit }

  pub bad-wide : (ws : List W) (left : W) → IsFilled whole bits precision ws (Some left)
      → 2 ^ bits + whole left ≤ 2 ^ precision
      → ¬ (IsAccepted bits precision (completed precision true (map whole ws)))
  bad-wide ws left f wide a =
      let last : 2 ^ precision - sum (map whole ws) < 2 ^ bits =
      All-contains (λ x. x < 2 ^ bits) _ _ a.fit (Contains-push (map whole ws) (2 ^ precision - sum (map whole ws))) in
      omega (arith, f.is)

  good-inferred : (ws : List W) (left : W) → IsFilled whole bits precision ws (Some left) → 2 ^ precision < 2 ^ bits + whole left
      → IsAccepted bits precision (completed precision true (map whole ws))
  good-inferred ws left f narrow =
      let xs : List ℕ = map whole ws in
      let up : 0 < 2 ^ precision - sum xs = omega (arith, f.is, f.below) in
      let low : 2 ^ precision - sum xs < 2 ^ bits = omega (arith, f.is, f.below) in
      record {
        tiles =
            record {
              positive = All-push (λ x. 0 < x) xs (2 ^ precision - sum xs) f.positive up;
              total = sum_by_push (λ x. x) xs (2 ^ precision - sum xs) ∙ omega (arith, f.is, f.below);
            };
        fit = All-push (λ x. x < 2 ^ bits) xs (2 ^ precision - sum xs) f.fit low;
      }

  -- a row that leaves some of the quantiles
  pub row-within : (left w next : W) (room : ℕ) → whole left + room + 1 ≡ 2 ^ precision → 2 ^ precision ≤ 2 ^ bits
      → 0 < whole w → whole w ≤ room → whole next ≡ whole left + whole w
      → IsRowEnd whole bits precision left w (Some next)
  row-within left w next room all narrow some less is = record {
    positive = some;
    fits = omega arith;
    is = is;
    below = let b : whole next < 2 ^ precision = omega arith in b;
  }

  -- a row that takes all that is left
  pub row-last : (left w : W) (room : ℕ) (infer : Bool) → whole left + room + 1 ≡ 2 ^ precision → FillsAll bits (whole w) room infer
      → IsRowEnd whole bits precision left w None
  row-last left w room infer all fills = record {
    positive = fills.positive;
    fits = fills.fits;
    is = let e : 2 ^ precision ≡ whole left + whole w = omega (arith, fills.is) in e;
    below = tt;
  }

  -- weights that leave nothing for the inferred one, whatever follows
  pub bad-full-more : (ws more : List W) → 2 ^ precision ≤ sum (map whole ws)
      → ¬ (IsAccepted bits precision (completed precision true (map whole (ws ++ more))))
  bad-full-more ws more much a =
      let xs : List ℕ = map whole (ws ++ more) in
      let total : sum xs ≡ sum (map whole ws) + sum (map whole more) =
      ap sum (map-append whole ws more) ∙ sum_by-append (λ x. x) (map whole ws) (map whole more) in
      let last : 0 < 2 ^ precision - sum xs =
      All-contains (λ x. 0 < x) _ _ a.tiles.positive (Contains-push xs (2 ^ precision - sum xs)) in
      omega arith

  -- a weight after weights that leave nothing
  pub bad-after : (infer : Bool) (ws more : List W) (w : W) → 2 ^ precision ≤ sum (map whole ws)
      → ¬ (IsAccepted bits precision (completed precision infer (map whole ((ws ++ w ∷ []) ++ more))))
  bad-after infer ws more w much = bad-more infer ws more w (zero-or-more (whole w) (sum (map whole ws)) much)
    where
      zero-or-more : (n s : ℕ) → 2 ^ precision ≤ s → (n ≡ 0) ⊎ (2 ^ precision < s + n)
      zero-or-more zero s h = inl refl
      zero-or-more (suc n) s h = inr (omega arith)

  -- a given weight that does not end the list as it should
  pub bad-no_last : (infer : Bool) (ws more : List W) (w : W) (room : ℕ) → sum (map whole ws) + room + 1 ≡ 2 ^ precision
      → IsNoLast (whole w) room infer
      → ¬ (IsAccepted bits precision (completed precision infer (map whole ((ws ++ w ∷ []) ++ more))))
  bad-no_last infer ws more w room all why = elim why [
    | inl none ↦ bad-more infer ws more w (inl none)
    | inr (inl much) ↦ bad-more infer ws more w (inr (omega (arith, all, much)))
    | inr (inr full) ↦
        let given : infer ≡ true = full.0 in
        let total : sum (map whole (ws ++ w ∷ [])) ≡ sum (map whole ws) + whole w =
        ap sum (map-append whole ws (w ∷ [])) ∙ sum_by_push (λ x. x) (map whole ws) (whole w) in
        rw given (bad-full-more (ws ++ w ∷ []) more (omega (arith, all, total, full.1)))
  ]

  -- no weight can be inferred after these
  pub bad-none_inferred : (infer : Bool) (ws : List W) (left : W) (room : ℕ) → IsFilled whole bits precision ws (Some left)
      → whole left + room + 1 ≡ 2 ^ precision → IsNoneInferred bits room infer
      → ¬ (IsAccepted bits precision (completed precision infer (map whole ws)))
  bad-none_inferred infer ws left room f all why = elim why [
    | inl given ↦ rw given (λ a. omega (arith, a.tiles.total, f.is, all))
    | inr wide ↦
        let inferred : infer ≡ true = wide.0 in
        rw inferred (bad-wide ws left f (omega (arith, all, wide.1)))
  ]

-- a weight and the word one below it, which wraps to the greatest word if the weight is 0
pub wrapped : (n last w : ℕ) → (last + 1) % n ≡ w → last < n → ((w ≡ 0) × (last + 1 ≡ n)) ⊎ ((w ≡ last + 1) × (w < n))
wrapped n last w is range = elim (cases_lt (last + 1) n) [
  | inl less ↦
      let same : (last + 1) % n ≡ last + 1 = mod-eq_of_lt less in
      inr (omega (arith, is, same), omega (arith, is, same, less))
  | inr most ↦
      let end : last + 1 ≡ n = omega (arith, range, most) in
      let zero_left : (last + 1) % n ≡ 0 = rw end (mod_self n) in
      inl (omega (arith, is, zero_left), end)
]

-- before the first weight all quantiles are left
pub begun-none : {S W : Type 0} (steps : S → Option W → S → Type 0) (it : S) (whole : W → ℕ) (bits precision : ℕ) (left : W) (room : ℕ)
    → whole left ≡ 0 → room + 1 ≡ 2 ^ precision → IsBegun steps it whole bits precision [] it left room
begun-none steps it whole bits precision left room least all = record {
  given = refl;
  filled = filled-none whole bits precision left least (omega arith);
  rest = omega arith;
}

module _ {S W : Type 0} {steps : S → Option W → S → Type 0} {it : S} {whole : W → ℕ} {bits precision : ℕ} {weights : List W} {s : S}
    {left : W} {room : ℕ} (t : IsBegun steps it whole bits precision weights s left room) where
  -- one more row
  pub begun-more : (s' : S) (w next : W) (room' : ℕ) → steps s (Some w) s' → 2 ^ precision ≤ 2 ^ bits
      → (0 < whole w) × (whole w ≤ room) → whole next ≡ whole left + whole w → room' ≡ room - whole w
      → IsBegun steps it whole bits precision (weights ++ w ∷ []) s' next room'
  begun-more s' w next room' sw narrow some end rest = record {
    given = yields-more steps it weights s w s' t.given sw;
    filled =
        filled-more whole bits precision weights left w (Some next) t.filled
        (row-within whole bits precision left w next room t.rest narrow some.0 some.1 end);
    rest = omega (arith, t.rest, some.1, end, rest);
  }

  module _ (infer : Bool) {T : Type 0} (Took : List ℕ → T → Type 0) where
    -- a last weight that is given
    pub begun-given : (s' s'' : S) (w : W) (taken : T) → steps s (Some w) s' → FillsAll bits (whole w) room infer → steps s' None s''
        → Took (map whole weights ++ whole w ∷ []) taken
        → GaveGood steps it (λ ws. IsAccepted bits precision (completed precision infer (map whole ws))
        × Took (completed precision infer (map whole ws)) taken)
    begun-given s' s'' w taken sw fills end took =
        let given : infer ≡ false = fills.given in (
          weights ++ w ∷ [],
          (s'', (s', yields-more steps it weights s w s' t.given sw, end)),
          rw given (
            good-given whole bits precision (weights ++ w ∷ [])
                (filled-more whole bits precision weights left w None t.filled
                (row-last whole bits precision left w room infer t.rest fills)),
            rw map-append took,
          ),
        )

    -- a last weight that is inferred
    pub begun-inferred : (s' : S) (last : ℕ) (taken : T) → steps s None s' → (infer ≡ true) × (room + 1 < 2 ^ bits) → last ≡ room + 1
        → Took (map whole weights ++ last ∷ []) taken
        → GaveGood steps it (λ ws. IsAccepted bits precision (completed precision infer (map whole ws))
        × Took (completed precision infer (map whole ws)) taken)
    begun-inferred s' last taken none word is took =
        let inferred : infer ≡ true = word.0 in
        let rest : 2 ^ precision - sum (map whole weights) ≡ last = omega (arith, is, t.rest, t.filled.is) in (
          weights,
          (s', (s, t.given, none)),
          rw inferred (
            good-inferred whole bits precision weights left t.filled (omega (arith, t.rest, word.1)),
            rw rest took,
          ),
        )

    -- a last weight that does not fill the whole, or a later one
    pub begun-bad_given : (Ends : ℕ → Type 0) (s' : S) (w : W) (taken : T) → steps s (Some w) s' → Took (map whole weights) taken
        → IsNoLast (whole w) room infer ⊎ ((room < whole w) × (s'' : S) × (more : W) × steps s' (Some more) s'')
        → AreNotTaken steps it whole bits precision infer Took Ends
    begun-bad_given Ends s' w taken sw took why =
        let given = yields-more steps it weights s w s' t.given sw in
        inl (
          elim why [
            | inl bad ↦ inr (
              weights ++ w ∷ [],
              s',
              given,
              λ more. bad-no_last whole bits precision infer weights more w room (omega (arith, t.filled.is, t.rest)) bad,
            )
            | inr after ↦
                let total : sum (map whole (weights ++ w ∷ [])) ≡ sum (map whole weights) + whole w =
                ap sum (map-append whole weights (w ∷ [])) ∙ sum_by_push (λ x. x) (map whole weights) (whole w) in
                let much : 2 ^ precision ≤ sum (map whole (weights ++ w ∷ [])) = omega (arith, total, t.filled.is, t.rest, after.0) in
                inr (
                  (weights ++ w ∷ []) ++ after.2 ∷ [],
                  after.1,
                  yields-more steps it (weights ++ w ∷ []) s' after.2 after.1 given after.3,
                  λ more. bad-after whole bits precision infer (weights ++ w ∷ []) more after.2 much,
                )
          ],
          map whole weights,
          taken,
          took,
        )

    -- no last weight can be inferred
    pub begun-bad_inferred : (Ends : ℕ → Type 0) (s' : S) (taken : T) → steps s None s' → Took (map whole weights) taken
        → IsNoneInferred bits room infer → AreNotTaken steps it whole bits precision infer Took Ends
    begun-bad_inferred Ends s' taken none took why = inl (
      inl (
        weights,
        (s', (s, t.given, none)),
        bad-none_inferred whole bits precision infer weights left room t.filled t.rest why,
      ),
      map whole weights,
      taken,
      took,
    )

    -- no row for a given weight
    pub begun-ended : (Ends : ℕ → Type 0) (s' : S) (w : W) → steps s (Some w) s' → Ends (length (map whole weights) + 1)
        → AreNotTaken steps it whole bits precision infer Took Ends
    begun-ended Ends s' w sw ends = inr (
      length (map whole weights) + 1,
      ends,
      weights ++ w ∷ [],
      SoFar,
      (s', yields-more steps it weights s w s' t.given sw),
      λ all b.
          let long : length (map whole all) ≡ length weights + 1 + length b.0 =
          length-map all whole ∙ ap length b.1 ∙ length-append (weights ++ w ∷ []) b.0 ∙ ap (λ n. n + length b.0) (length_push weights w) in
          omega (arith, long, length-map weights whole, length-completed precision infer (map whole all)),
    )

    -- no row for the inferred weight
    pub begun-ended_inferred : (Ends : ℕ → Type 0) (s' : S) → steps s None s' → infer ≡ true → Ends (length (map whole weights) + 1)
        → AreNotTaken steps it whole bits precision infer Took Ends
    begun-ended_inferred Ends s' none inferred ends = inr (
      length (map whole weights) + 1,
      ends,
      weights,
      ToItsEnd,
      (s', (s, t.given, none)),
      λ all b. rw (b, inferred) (omega (arith, length_push (map whole weights) (2 ^ precision - sum (map whole weights)))),
    )

-- the left cumulatives of accepted weights, with the total after them, are a cdf
pub cdf-taken : {S W : Type 0} (steps : S → Option W → S → Type 0) (it : S) (whole : W → ℕ) (bits precision : ℕ) (infer : Bool)
    (lefts cdf : List W) (total : W)
    → GaveGood steps it (λ ws. IsAccepted bits precision (completed precision infer (map whole ws))
    × (map whole lefts ≡ lefts_from 0 (completed precision infer (map whole ws))))
    → cdf ≡ lefts ++ total ∷ [] → whole total ≡ total_of bits precision → IsCdfOf steps it whole bits precision infer cdf
cdf-taken steps it whole bits precision infer lefts cdf total t is e =
    (t.0, t.1, (t.2.0, rw is (map-append whole lefts (total ∷ []) ∙ rw (t.2.1, e) refl)))
