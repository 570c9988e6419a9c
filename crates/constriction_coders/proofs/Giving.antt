-- Symbols that an iterator gives, and that are encoded as they come.
use Rattle.std.proofs.Common.{◌≡◌, List, [], ◌∷◌, Option, Some, None, Result, Ok, Err, map, refl, ap, sym, ◌∙◌, subst}
use Rattle.std.specs.Iterator.{Yields}
use Rattle.std.specs.Prelude.{MatchOption}
use Rattle.constriction_model.specs.Coding.{InTurn}
use Rattle.constriction_backends.specs.Sink.{TakesItems}

-- what was given so far, of which P holds
pub record GivenSoFar {Symbol I : Type 0} (steps : I → Option Symbol → I → Type 0) (symbols rest : I) (P : List Symbol → Type 0)
    : Type 0 where
  pub done : List Symbol
  pub given : Yields steps symbols done rest
  pub so_far : P done

-- an iterator whose steps are those of another inside it takes what that one takes, as `rev` does
module _ {Symbol I R : Type 0} (inner : R → I) (steps : I → Option Symbol → I → Type 0) where
  inner-yields : (s : R) (xs : List Symbol) (t : R) → Yields (λ u answer v. steps (inner u) answer (inner v)) s xs t
      → Yields steps (inner s) xs (inner t)
  inner-yields s [] t e = ap inner e
  inner-yields s (x ∷ xs) t (j, step, others) = (inner j, step, inner-yields j xs t others)

  -- what takes items from a wrapped iterator takes them from the inner one
  pub inner-takes : {E : Type 0} (s : R) (r : Result (Unit {0}) E) (OfAll : List Symbol → Type 0)
      (OfThose : List Symbol → Symbol → E → Type 0) → TakesItems (λ u answer v. steps (inner u) answer (inner v)) s r OfAll OfThose
      → TakesItems steps (inner s) r OfAll OfThose
  inner-takes s (Ok x) OfAll OfThose (done, (last, (rest, given, end)), all) =
      (done, (inner last, (inner rest, inner-yields s done rest given, end)), all)
  inner-takes s (Err e) OfAll OfThose (done, symbol, last, (rest, given, step), those) =
      (done, symbol, inner last, (inner rest, inner-yields s done rest given, step), those)

-- steps at places that are made of symbols
pub turns-own : {Symbol Place C : Type 0} (Step : Place → C → C → Type 0) (place : Symbol → Place) (xs : List Symbol) (a b : C)
    → InTurn Step (map place xs) a b → InTurn (λ x. Step (place x)) xs a b
turns-own Step place [] a b same = same
turns-own Step place (x ∷ xs) a b (j, step, others) = (j, step, turns-own Step place xs j b others)

-- an iterator that gives what another inside it gives, each time with its model
module _ {Symbol Model I W : Type 0} (inner : W → I) (model : W → Model) (steps : I → Option Symbol → I → Type 0) where
  abbrev Gives : W → Option (Symbol × Model) → W → Type 0
  Gives s r t =
      (model t ≡ model s) × MatchOption r (steps (inner s) None (inner t))
      (λ pair. steps (inner s) (Some pair.0) (inner t) × (pair.1 ≡ model s))

  given-with : (m : Model) (s : W) (pairs : List (Symbol × Model)) (t : W) → model s ≡ m → Yields Gives s pairs t
      → (xs : List Symbol) × (pairs ≡ map (λ x. (x, m)) xs) × Yields steps (inner s) xs (inner t) × (model t ≡ m)
  given-with m s [] t is e = ([], refl, ap inner e, sym (ap model e) ∙ is)
  given-with m s (p ∷ ps) t is (j, step, others) =
      let rest = given-with m j ps t (step.0 ∙ is) others in (
        p.0 ∷ rest.0,
        ap (λ n. (p.0, n) ∷ ps) (step.1.1 ∙ is) ∙ ap (λ (qs : List (Symbol × Model)). (p.0, m) ∷ qs) rest.1,
        (inner j, step.1.0, rest.2),
        rest.3,
      )

  -- symbols that are taken with one model are taken as pairs with it
  pub taken-with : {E : Type 0} (m : Model) (s : W) (r : Result (Unit {0}) E) (OfPairs : List (Symbol × Model) → Type 0)
      (OfThosePairs : List (Symbol × Model) → Symbol × Model → E → Type 0) (OfAll : List Symbol → Type 0)
      (OfThose : List Symbol → Symbol → E → Type 0) → model s ≡ m → ((xs : List Symbol) → OfPairs (map (λ x. (x, m)) xs) → OfAll xs)
      → ((xs : List Symbol) (x : Symbol) (e : E) → OfThosePairs (map (λ x. (x, m)) xs) (x, m) e → OfThose xs x e)
      → TakesItems Gives s r OfPairs OfThosePairs → TakesItems steps (inner s) r OfAll OfThose
  taken-with m s (Ok x) OfPairs OfThosePairs OfAll OfThose is all those (pairs, (last, (rest, given, end)), of) =
      let told = given-with m s pairs rest is given in
      (told.0, (inner last, (inner rest, told.2, end.1)), all told.0 (subst OfPairs told.1 of))
  taken-with m s (Err e) OfPairs OfThosePairs OfAll OfThose is all those (pairs, pair, last, (rest, given, step), of) =
      let told = given-with m s pairs rest is given in
      let by : pair.1 ≡ m = step.1.1 ∙ told.3 in (
        told.0,
        pair.0,
        inner last,
        (inner rest, told.2, step.1.0),
        those told.0 pair.0 e (subst (λ n. OfThosePairs (map (λ x. (x, m)) told.0) (pair.0, n) e) by
            (subst (λ (ps : List (Symbol × Model)). OfThosePairs ps pair e) told.1 of)),
      )
