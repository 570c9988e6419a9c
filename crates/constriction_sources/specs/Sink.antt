-- What a sink of words does. `gives s w r t` says that a write of w to s may answer r and leave t, and `tells s ws` that the words ws
-- were written to s.
use Rattle.std.specs.Prelude.{◌≡◌, ℕ, ◌+◌, List, [], ◌∷◌, ◌++◌, Option, Some, Result, Ok, Err, MatchResult}
use Rattle.std.specs.Iterator.{Drains, YieldsThen}

-- A write after the words ws appends its word to them, or is refused and keeps them.
abbrev pub WritesAppend : {S W E : Type 0} → (S → List W → Type 0) → List W → W → Result (Unit {0}) E → S → Type 0
WritesAppend tells ws w r t = MatchResult r (λ _. tells t (ws ++ w ∷ [])) (λ _. tells t ws)

-- A write with m free places before it and n after it takes one place, or is refused because there is none.
abbrev pub CountsWrite : {E : Type 0} → ℕ → Result (Unit {0}) E → ℕ → Type 0
CountsWrite m r n = MatchResult r (λ _. m ≡ n + 1) (λ _. (m ≡ 0) × (n ≡ 0))

-- The items of an iterator were taken. Either all of them were, and OfAll holds of them; or one was refused, and OfThose holds of the
-- items before it, of that item and of the error.
abbrev pub TakesItems : {I W E : Type 0} → (I → Option W → I → Type 0) → I → Result (Unit {0}) E → (List W → Type 0)
    → (List W → W → E → Type 0) → Type 0
TakesItems {I} {W} next items r OfAll OfThose =
    MatchResult r
    (λ _. (ws : List W) × Drains next items ws × OfAll ws)
    (λ e. (ws : List W) × (w : W) × (rest : I) × YieldsThen next items ws (Some w) rest × OfThose ws w e)

module _ {S W E : Type 0} (gives : S → W → Result (Unit {0}) E → S → Type 0) where
  -- successful writes, in order, lead from s to t
  abbrev pub Writes : S → List W → S → Type 0
  Writes s [] t = s ≡ t
  Writes s (w ∷ ws) t = (j : S) × gives s w (Ok tt) j × Writes j ws t

  -- the items of an iterator were written in order: all of them, or those before the first refused one
  abbrev pub ExtendsBy : {I : Type 0} → (I → Option W → I → Type 0) → S → I → Result (Unit {0}) E → S → Type 0
  ExtendsBy next s items r t =
      TakesItems next items r (λ ws. Writes s ws t) (λ ws w e. (j : S) × Writes s ws j × gives j w (Err e) t)

  -- words were written in order to s up to one that was refused with this error, which leads to t
  pub record StopsAtWord (s : S) (words : List W) (error : E) (t : S) : Type 0 where
    pub before : List W
    pub word : W
    pub after : List W
    pub split : words ≡ before ++ word ∷ after
    pub reached : S
    pub written : Writes s before reached
    pub refused : gives reached word (Err error) t
