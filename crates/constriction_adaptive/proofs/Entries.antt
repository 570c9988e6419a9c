-- Entries of places, which are encoded from the last one to the first.
use Rattle.std.proofs.Common.{◌≡◌, ℕ, zero, suc, ◌+◌, ◌<◌, List, [], ◌∷◌, ◌++◌, fold, length, get_or, map, take, drop, Option, None, refl, ap, sym, ◌∙◌, subst, arith}
use Rattle.std.specs.List.{AllZip}
use Rattle.std.proofs.lemmas.List.{get_or-map, take_more}
use Rattle.std.proofs.lemmas.List.Sums.{fold-append}
use Rattle.constriction_model.specs.Coding.{InTurn}
use Rattle.constriction_coders.specs.Places.{placed}
use Rattle.constriction_coders.specs.Steps.{Content, IsOnTop, IsEncoded}
use Rattle.constriction_coders.proofs.Stopping.{split-at-symbol}
use Rattle.constriction_adaptive.specs.Entries.{IsEntryAt}
use Rattle.constriction_adaptive.specs.Predicted.{StopsPredicting}
use Rattle.constriction_adaptive.specs.declared.error.EncoderFrontendError.{EncoderFrontendError}
use Rattle.constriction_adaptive.specs.declared.error.EncoderFrontendError.TheVariants.{ImpossibleSymbol, OutOfMemory}
use Rattle.constriction_adaptive.proofs.Runs.{placed-append}

module _ {Place : Type 0} (entry : Place → Option (ℕ × ℕ)) (precision : ℕ) where
  -- an entry for one place more
  pub entries-push : (places : List Place) (found : List (ℕ × ℕ)) (place : Place) (one : ℕ × ℕ)
      → AllZip (IsEntryAt precision entry) places found → IsEntryAt precision entry place one
      → AllZip (IsEntryAt precision entry) (places ++ place ∷ []) (found ++ one ∷ [])
  entries-push [] [] place one h is = (is, tt)
  entries-push [] (f ∷ fs) place one h is = absurd h
  entries-push (p ∷ ps) [] place one h is = absurd h
  entries-push (p ∷ ps) (f ∷ fs) place one h is = (h.0, entries-push ps fs place one h.1 is)

  -- each entry has quantiles, all below 2 ^ precision
  pub entry-lies : (places : List Place) (found : List (ℕ × ℕ)) (i : ℕ) (one : ℕ × ℕ) → AllZip (IsEntryAt precision entry) places found
      → i < length found → one ≡ get_or found i one → (place : Place) × IsEntryAt precision entry place one
  entry-lies [] [] i one h less is = absurd (omega (arith, less))
  entry-lies [] (f ∷ fs) i one h less is = absurd h
  entry-lies (p ∷ ps) [] i one h less is = absurd h
  entry-lies (p ∷ ps) (f ∷ fs) zero one h less is = (p, rw is h.0)
  entry-lies (p ∷ ps) (f ∷ fs) (suc i) one h less is = entry-lies ps fs i one h.1 (omega (arith, less)) is

  -- one place more is encoded, before the places that are
  pub encoded-more : (places : List Place) (found : List (ℕ × ℕ)) (i : ℕ) (one : ℕ × ℕ) (new mid old : Content)
      → AllZip (IsEntryAt precision entry) places found → i < length found → one ≡ get_or found i one
      → IsOnTop precision one.0 one.1 new mid → InTurn (λ s. IsEncoded (entry s) precision) (drop (suc i) places) mid old
      → InTurn (λ s. IsEncoded (entry s) precision) (drop i places) new old
  encoded-more [] [] i one new mid old h less is top led = absurd (omega (arith, less))
  encoded-more [] (f ∷ fs) i one new mid old h less is top led = absurd h
  encoded-more (p ∷ ps) [] i one new mid old h less is top led = absurd h
  encoded-more (p ∷ ps) (f ∷ fs) zero one new mid old h less is top led =
      let here : IsEntryAt precision entry p one = rw is h.0 in
      (mid, record { left = one.0; weight = one.1; known = here.known; top = top }, led)
  encoded-more (p ∷ ps) (f ∷ fs) (suc i) one new mid old h less is top led =
      encoded-more ps fs i one new mid old h.1 (omega (arith, less)) is top led

-- an entry that is kept among others is among the entries
pub kept-at : {K : Type 0} (kept : K → ℕ × ℕ) (all : List K) (i : ℕ) (one : K) (read : ℕ × ℕ) → i < length all → one ≡ get_or all i one
    → read ≡ kept one → read ≡ get_or (map kept all) i read
kept-at kept all i one read less is same = same ∙ ap kept is ∙ sym (get_or-map kept all i one read less)

-- the symbols after one are encoded
pub stacking-stops : {State Symbol C : Type 0} (next : State → Symbol → State) (Step : State × Symbol → C → C → Type 0) (first : State)
    (symbols : List Symbol) (i : ℕ) (new old : C) → i < length symbols → InTurn Step (drop (suc i) (placed next first symbols)) new old
    → (done : List Symbol) × (symbol : Symbol) × (after : List Symbol) × (symbols ≡ done ++ symbol ∷ after)
    × InTurn Step (placed next (next (fold next first done) symbol) after) new old
stacking-stops next Step first [] i new old less led = absurd (omega (arith, less))
stacking-stops next Step first (x ∷ xs) zero new old less led = ([], x, xs, refl, led)
stacking-stops {Symbol = Symbol} next Step first (x ∷ xs) (suc i) new old less led =
    let rest = stacking-stops next Step (next first x) xs i new old (omega (arith, less)) led in
    (x ∷ rest.0, rest.1, rest.2, ap (λ (ys : List Symbol). x ∷ ys) rest.3, rest.4)

-- there are as many places as symbols
pub placed-long : {State Symbol : Type 0} (next : State → Symbol → State) (first : State) (symbols : List Symbol)
    → length (placed next first symbols) ≡ length symbols
placed-long next first [] = refl
placed-long next first (x ∷ xs) = ap suc (placed-long next (next first x) xs)

-- the entries of some symbols, and the entry of the next one
pub entries-next : {State Symbol : Type 0} (next : State → Symbol → State) (done : List Symbol) (x : Symbol) (first between : State)
    → between ≡ fold next first done → (entry : State × Symbol → Option (ℕ × ℕ)) (precision : ℕ) (found : List (ℕ × ℕ)) (one : ℕ × ℕ)
    (last : State) → AllZip (IsEntryAt precision entry) (placed next first done) found → IsEntryAt precision entry (between, x) one
    → last ≡ next between x
    → AllZip (IsEntryAt precision entry) (placed next first (done ++ x ∷ [])) (found ++ one ∷ [])
    × (last ≡ fold next first (done ++ x ∷ []))
entries-next {State} {Symbol} next done x first between learned entry precision found one last h here after =
    let place : (between, x) ≡ (fold next first done, x) = ap (λ (s : State). let p : State × Symbol = (s, x) in p) learned in (
      subst (λ (ps : List (State × Symbol)). AllZip (IsEntryAt precision entry) ps (found ++ one ∷ []))
          (sym (placed-append next first done (x ∷ [])))
          (entries-push entry precision (placed next first done) found (fold next first done, x) one h
          (subst (λ (p : State × Symbol). IsEntryAt precision entry p one) place here)),
      after ∙ ap (λ (s : State). next s x) learned ∙ sym (fold-append next first done (x ∷ [])),
    )

module _ {State Symbol : Type 0} (next : State → Symbol → State) (xs : List Symbol) (i : ℕ) (x : Symbol) (less : i < length xs)
    (is : x ≡ get_or xs i x) (first between : State) (learned : between ≡ fold next first (take i xs)) where
  more : take (i + 1) xs ≡ take i xs ++ x ∷ []
  more = take_more xs i x less ∙ ap (λ y. take i xs ++ y ∷ []) (sym is)

  -- one symbol more is predicted
  pub entries-take : (entry : State × Symbol → Option (ℕ × ℕ)) (precision : ℕ) (found : List (ℕ × ℕ)) (one : ℕ × ℕ) (last : State)
      → AllZip (IsEntryAt precision entry) (placed next first (take i xs)) found → IsEntryAt precision entry (between, x) one
      → last ≡ next between x
      → AllZip (IsEntryAt precision entry) (placed next first (take (i + 1) xs)) (found ++ one ∷ [])
      × (last ≡ fold next first (take (i + 1) xs))
  entries-take entry precision found one last h here after =
      let both = entries-next next (take i xs) x first between learned entry precision found one last h here after in (
        subst (λ (ys : List Symbol). AllZip (IsEntryAt precision entry) (placed next first ys) (found ++ one ∷ [])) (sym more) both.0,
        both.1 ∙ sym (ap (λ (ys : List Symbol). fold next first ys) more),
      )

  -- or it is not, and nothing changes
  pub stops-predicting : (entry : State → Symbol → Option (ℕ × ℕ)) (error : EncoderFrontendError) (last : State)
      → (error ≡ ImpossibleSymbol → entry between x ≡ None) → last ≡ between → StopsPredicting next entry xs error first last
  stops-predicting entry ImpossibleSymbol last impossible unlearned = (
    take i xs,
    x,
    drop (suc i) xs,
    split-at-symbol xs i x less is,
    unlearned ∙ learned,
    subst (λ (s : State). entry s x ≡ None) (sym unlearned) (impossible refl),
  )
  stops-predicting entry OutOfMemory last impossible unlearned =
      (take i xs, x ∷ drop (suc i) xs, split-at-symbol xs i x less is, unlearned ∙ learned)
