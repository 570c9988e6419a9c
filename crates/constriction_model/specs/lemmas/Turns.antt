-- Runs of symbols, for the proofs of coders: a run grows at either end, and answers equal their symbols if clones do.
use Rattle.std.proofs.Common.{◌≡◌, ℕ, ◌+◌, ◌<◌, Bool, List, [], ◌∷◌, ◌++◌, length, reverse, take, get_or, refl, ap, sym, ◌∙◌, subst}
use Rattle.std.specs.Cmp.{IsEquivalence}
use Rattle.std.specs.Prelude.{IsTrue}
use Rattle.std.specs.List.{AllZip}
use Rattle.std.proofs.lemmas.List.{reverse-append, take_more}
use Rattle.constriction_model.specs.Coding.{StandsForEqual, InTurn}
use Rattle.constriction_model.specs.Model.{ClonesAreEqual}

-- if a clone equals its symbol, an answer that stands for an equal symbol is equal
pub are-equal : {Symbol : Type 0} (Stands : Symbol → Symbol → Type 0) (eq : Symbol → Symbol → Bool)
    → IsEquivalence eq → ClonesAreEqual eq Stands → (symbols answers : List Symbol) → AllZip (StandsForEqual Stands eq) symbols answers
    → AllZip (λ symbol answer. IsTrue (eq answer symbol)) symbols answers
are-equal Stands eq laws clones [] [] h = tt
are-equal Stands eq laws clones [] (a ∷ ts) h = absurd h
are-equal Stands eq laws clones (s ∷ ss) [] h = absurd h
are-equal Stands eq laws clones (s ∷ ss) (a ∷ ts) h = (
  sym (laws.congr h.0.0 a s (clones h.0.0 a h.0.2)) ∙ h.0.1,
  are-equal Stands eq laws clones ss ts h.1,
)

module _ {Symbol Content : Type 0} (Step : Symbol → Content → Content → Type 0) where
  -- one more symbol before the others
  pub turn-first : (xs : List Symbol) (i : ℕ) (x : Symbol) (full mid rest : Content) → i < length xs → x ≡ get_or xs i x
      → Step x full mid → InTurn Step (reverse (take i xs)) mid rest → InTurn Step (reverse (take (i + 1) xs)) full rest
  turn-first xs i x full mid rest less is step before =
      let more : reverse (take (i + 1) xs) ≡ x ∷ reverse (take i xs) =
      ap reverse (take_more xs i x less ∙ ap (λ y. take i xs ++ y ∷ []) (sym is)) ∙ reverse-append (take i xs) (x ∷ []) in
      subst (λ (ys : List Symbol). InTurn Step ys full rest) (sym more) (mid, step, before)

  -- one more symbol after the others
  pub turn-last : (xs : List Symbol) (x : Symbol) (full mid rest : Content) → InTurn Step xs full mid → Step x mid rest
      → InTurn Step (xs ++ x ∷ []) full rest
  turn-last [] x full mid rest e step = (rest, subst (λ (c : Content). Step x c rest) (sym e) step, refl)
  turn-last (y ∷ ys) x full mid rest p step = (p.0, p.1, turn-last ys x p.0 mid rest p.2 step)
