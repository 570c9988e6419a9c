-- Symbols that an iterator shows before it gives them.
use Rattle.std.proofs.Common.{◌≡◌, ℕ, List, [], ◌∷◌, ◌++◌, Option, Some, None, Result, Ok, Err, reverse, ap, sym, ◌∙◌, subst}
use Rattle.std.proofs.lemmas.List.{reverse-append}
use Rattle.std.specs.Iterator.{YieldsThen, YieldsLast}
use Rattle.std.specs.Prelude.{OnOk}
use Rattle.constriction.specs.Coding.{InTurn}
use Rattle.constriction_backends.specs.Sink.{TakesItems}
use Rattle.constriction_coders.proofs.Stopping.{turns-back}
use Rattle.constriction_coders.specs.Steps.{Content, IsEncoded}

module _ {Symbol I : Type 0} (steps : I → Option Symbol → I → Type 0) where
  -- if each state shows what is left, that is what was given from the back, the last one first
  shown-back : (rest : I → List Symbol)
      → ((s : I) (answer : Option Symbol) (t : I) → steps s answer t → YieldsLast rest s answer t)
      → (given : List Symbol) (s u : I) → YieldsThen steps s given None u → reverse given ≡ rest s
  shown-back rest shows [] s u (t, same, end) = sym (ap rest same ∙ (shows t None u end).0)
  shown-back rest shows (x ∷ xs) s u (t, (j, step, yields), end) =
      reverse-append (x ∷ []) xs ∙ ap (λ ys. ys ++ x ∷ []) (shown-back rest shows xs j u (t, yields, end)) ∙ sym (shows s (Some x) j step)

  -- so if all of it was encoded, what was shown was
  pub taken-in-turn : {E : Type 0} (entry : Symbol → Option (ℕ × ℕ)) (precision : ℕ) (symbols given : I) → given ≡ symbols
      → (full old : Content) (r : Result (Unit {0}) E) (OfThose : List Symbol → Symbol → E → Type 0)
      → TakesItems steps given r (λ done. InTurn (λ s under over. IsEncoded (entry s) precision over under) done old full) OfThose
      → OnOk r ((rest : I → List Symbol)
      → ((s : I) (answer : Option Symbol) (t : I) → steps s answer t → YieldsLast rest s answer t)
      → InTurn (λ s. IsEncoded (entry s) precision) (rest symbols) full old)
  taken-in-turn entry precision symbols given same full old (Ok x) OfThose (done, drains, led) = λ rest shows.
      subst (λ (ys : List Symbol). InTurn (λ s. IsEncoded (entry s) precision) ys full old)
      (shown-back rest shows done given drains.0 drains.1 ∙ ap rest same) (turns-back (λ x a b step. step) done old full led)
  taken-in-turn entry precision symbols given same full old (Err e) OfThose took = tt
