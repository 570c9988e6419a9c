-- The steps of a stack meet the laws of sources and sinks. The impls cite these, and a caller's own may.
use Rattle.std.specs.Prelude.{◌≡◌, ◌≢◌, ◌↔◌, List, [], ◌∷◌, ◌++◌, ⊤, reverse, length, Option, Some, None, Result, Ok, Err, IfErr}
use Rattle.std.specs.Prelude.{Bool, true, false, IsTrue}
use Rattle.std.specs.Bool.{OnFalse}
use Rattle.std.proofs.Common.{sym, ◌∙◌, ap}
use Rattle.std.proofs.lemmas.List.{reverse-append, reverse-reverse, length-append, length-reverse}
use Rattle.constriction_sources.specs.Source.{ReadsUpcoming, CountsRead}
use Rattle.constriction_sources.specs.Sink.{WritesAppend}
use Rattle.constriction_sources.specs.Stack.{Pops, Pushes, PopsOrFails}

module _ {S W : Type 0} (items : S → List W) {E : Type 0} where
  -- a stack gives its words back in reverse
  pub Pops-upcoming : (s : S) (r : Result (Option W) E) (t : S) → Pops (items s) r (items t)
      → (words : List W) → words ≡ reverse (items s) → ReadsUpcoming (λ u ws. ws ≡ reverse (items u)) words r t
  Pops-upcoming s (Ok None) t h words e = (e ∙ ap reverse h.0, sym (ap reverse h.1))
  Pops-upcoming s (Ok (Some w)) t h words e =
      (reverse (items t), e ∙ (ap reverse h ∙ reverse-append (items t) (w ∷ [])), λ _. reverse (items t))
  Pops-upcoming s (Err x) t h words e = absurd h

  -- the words of a stack are the written words
  pub Pushes-append : (s : S) (w : W) (r : Result (Unit {0}) E) (t : S) → Pushes (items s) w r (items t)
      → (words : List W) → words ≡ items s → WritesAppend (λ u ws. ws ≡ items u) words w r t
  Pushes-append s w (Ok x) t h words e = ap (λ ws. ws ++ w ∷ []) e ∙ sym h
  Pushes-append s w (Err x) t h words e = e ∙ sym h

  -- a stack has as many words left as it holds
  pub Pops-counted : (s : S) (r : Result (Option W) E) (t : S) → ⊤ → Pops (items s) r (items t)
      → CountsRead (length (items s)) r (length (items t)) × ⊤
  Pops-counted s (Ok None) t exact h = ((ap length h.0, ap length h.1), exact)
  Pops-counted s (Ok (Some w)) t exact h = (ap length h ∙ length-append (items t) (w ∷ []), exact)
  Pops-counted s (Err x) t exact h = absurd h

-- the upcoming words of a stack are as many as it holds
pub tells_all : {S W : Type 0} (items : S → List W) (s : S) → ⊤ → (words : List W) → words ≡ reverse (items s)
    → length (items s) ≡ length words
tells_all items s exact words e = sym (ap length e ∙ length-reverse (items s))

-- if every error says that memory was refused, each refusal does
pub any_error : {E : Type 0} (r : Result (Unit {0}) E) → IfErr r (λ _. ⊤)
any_error (Ok x) = tt
any_error (Err e) = tt

-- a stack that is not empty has words to come
pub tells_end : {W : Type 0} (items : List W) (ended : Bool) → IsTrue ended ↔ (items ≡ [])
    → OnFalse ended ((words : List W) → words ≡ reverse items → words ≢ [])
tells_end items true h = tt
tells_end items false h = λ words known none.
    let empty : items ≡ [] = sym (reverse-reverse items) ∙ ap reverse (sym known ∙ none) in
    absurd (let wrong = h.1 empty in cc)

-- a stack that always has room may answer either to `maybe_full`
pub always_room : (full : Bool) → OnFalse full ⊤
always_room true = tt
always_room false = tt

-- if a stack tells its words and no others, a step does to its words what it does to the lists that the stack tells
module _ {S W E : Type 0} (tells : S → List W → Type 0) (words_of : S → List W) (old : List W) where
  -- a write that appends to the words that a stack holds pushes one
  pub known_pushes : ((s : S) (words : List W) → tells s words → words ≡ words_of s) → (w : W) (r : Result (Unit {0}) E) (t : S)
      → WritesAppend tells old w r t → Pushes old w r (words_of t)
  known_pushes no_others w (Ok x) t h = sym (no_others t (old ++ w ∷ []) h)
  known_pushes no_others w (Err e) t h = sym (no_others t old h)

  -- a read of the words that a stack holds, last first, pops one, or fails
  pub known_pops : ((s : S) (words : List W) → tells s words → words ≡ reverse (words_of s)) → (r : Result (Option W) E) (t : S)
      → ReadsUpcoming tells (reverse old) r t → PopsOrFails old r (words_of t)
  known_pops no_others (Ok None) t h = (
    sym (reverse-reverse old) ∙ ap reverse h.0,
    sym (reverse-reverse (words_of t)) ∙ ap reverse (sym (no_others t [] h.1)),
  )
  known_pops no_others (Ok (Some w)) t (rest, e, known) =
      sym (reverse-reverse old) ∙ ap reverse e ∙ reverse-append (w ∷ []) rest
      ∙ ap (λ ws. ws ++ w ∷ []) (ap reverse (no_others t rest known) ∙ reverse-reverse (words_of t))
  known_pops no_others (Err e) t h = (
    λ none. h.0 (ap reverse none),
    sym (reverse-reverse (words_of t)) ∙ ap reverse (sym (no_others t (reverse old) h.1)) ∙ reverse-reverse old,
  )
