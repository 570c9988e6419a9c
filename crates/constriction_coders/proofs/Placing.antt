-- The words under a place stay under what is encoded after it.
use Rattle.std.proofs.Common.{◌≡◌, ℕ, ◌≤◌, List, [], ◌∷◌, ◌++◌, Option, Result, Ok, Err, length, take, refl, ap, sym, ◌∙◌, arith, inl, inr}
use Rattle.std.specs.Prelude.{IsOk}
use Rattle.std.proofs.lemmas.List.{append-nil, append_assoc, length-append, take-append-le, take_all}
use Rattle.constriction_model.specs.Coding.{InTurn}
use Rattle.constriction_coders.specs.Positions.{SeeksPlace, PlaceComesBack}
use Rattle.constriction_coders.specs.States.{taken}
use Rattle.constriction_coders.specs.Steps.{Content, content, Refills, IsEncoded}

-- what is under a state that took a word, or none, begins the words
begins : (state : ℕ) (words : List ℕ) (new : Content) → Refills state words new → (more : List ℕ) × (words ≡ new.words ++ more)
begins state words new (inl x) = ([], ap (λ (c : Content). c.words) (sym x.1) ∙ sym (append-nil new.words))
begins state words new (inr x) = (x.1 ∷ [], x.3)

module _ {Symbol : Type 0} (entry : Symbol → Option (ℕ × ℕ)) (precision : ℕ) where
  kept-under : (symbols : List Symbol) (full noted : Content) → InTurn (λ s. IsEncoded (entry s) precision) symbols full noted
      → (more : List ℕ) × (full.words ≡ noted.words ++ more)
  kept-under [] full noted p = ([], ap (λ (c : Content). c.words) p ∙ sym (append-nil noted.words))
  kept-under (s ∷ ss) full noted p =
      let first = begins (taken precision p.1.left p.1.weight full.state) full.words p.0 p.1.top.under in
      let others = kept-under ss p.0 noted p.2 in
      (others.0 ++ first.0, first.1 ∙ ap (λ ws. ws ++ first.0) others.1 ∙ append_assoc noted.words others.0 first.0)

  -- a place that was noted on a stack can be gone back to
  pub place-comes-back : PlaceComesBack entry precision
  place-comes-back symbols noted full old new more there r held led is sought = go r sought
    where
      kept : (rest : List ℕ) × (there ≡ noted.words ++ rest)
      kept =
          let under = kept-under symbols full noted led in
          (under.0 ++ more, is ∙ ap (λ ws. ws ++ more) under.1 ∙ append_assoc noted.words under.0 more)

      fits : length noted.words ≤ length there
      fits = omega (arith, ap length kept.1, length-append noted.words kept.0)

      first : take (length noted.words) there ≡ noted.words
      first =
          ap (take (length noted.words)) kept.1 ∙ take-append-le (length noted.words) noted.words kept.0 (omega arith)
          ∙ take_all (length noted.words) noted.words (omega arith)

      go : (r : Result (Unit {0}) (Unit {0})) → SeeksPlace there old (length noted.words, noted.state) r new → IsOk r × (new ≡ noted)
      go (Ok x) h = (refl, h.1 ∙ ap (λ ws. content noted.state ws) first)
      go (Err x) (inl few, same) = absurd (omega (arith, few, fits))
      go (Err x) (inr below, same) =
          let none : noted.words ≡ [] = held.whole below.1 in absurd (omega (arith, below.0, ap length none))
