-- Symbols on a stack that held nothing before have one list of words.
use Rattle.std.proofs.Common.{◌≡◌, ℕ, ◌≤◌, List, [], ◌∷◌, Option, sym, ◌∙◌, subst, arith}
use Rattle.std.proofs.lemmas.List.{length_push}
use Rattle.constriction_model.specs.Coding.{InTurn}
use Rattle.constriction_coders.specs.Compressed.{AreAllWordsOf}
use Rattle.constriction_coders.specs.StackMessages.{IsStackOf}
use Rattle.constriction_coders.specs.Steps.{Content, content, MayBeHeld, IsOnTop, IsEncoded}
use Rattle.constriction_coders.proofs.Closing.{words-once}
use Rattle.constriction_coders.proofs.ComingBack.{encode-once, on-top-some}
use Rattle.constriction_coders.proofs.States.{taken_at_most, taken_some}

-- if a coder may hold a content, it may hold what is under the symbol on top
rest-held : (precision left weight : ℕ) (full rest : Content) → precision ≤ 32 → MayBeHeld full
    → IsOnTop precision left weight full rest → MayBeHeld rest
rest-held precision left weight full rest fits held top =
    let less = taken_at_most precision left weight full.state top.within in
    let positive = taken_some precision left weight full.state fits (on-top-some precision left weight full rest top) in
    let whole = held.whole in record {
      fits = grind (arith, held.fits, top.under);
      whole = λ below. grind (arith, held.fits, top.under, length_push {X = ℕ});
    }

module _ {Symbol : Type 0} (entry : Symbol → Option (ℕ × ℕ)) (precision : ℕ) (fits : precision ≤ 32) where
  -- symbols are encoded in one way onto what was held before
  run-once : (symbols : List Symbol) (a b last : Content) → MayBeHeld a → MayBeHeld b
      → InTurn (λ s. IsEncoded (entry s) precision) symbols a last → InTurn (λ s. IsEncoded (entry s) precision) symbols b last → a ≡ b
  run-once [] a b last ha hb p q = p ∙ sym q
  run-once (s ∷ ss) a b last ha hb p q =
      let a-rest = rest-held precision p.1.left p.1.weight a p.0 fits ha p.1.top in
      let b-rest = rest-held precision q.1.left q.1.weight b q.0 fits hb q.1.top in
      let same : p.0 ≡ q.0 = run-once ss p.0 q.0 last a-rest b-rest p.2 q.2 in
      encode-once entry precision fits s a b q.0 ha hb (subst (λ (c : Content). IsEncoded (entry s) precision a c) same p.1) q.1

  -- symbols have one stack
  pub words-of-symbols-once : (symbols : List Symbol) (words others : List ℕ) → IsStackOf entry precision symbols words
      → IsStackOf entry precision symbols others → words ≡ others
  words-of-symbols-once symbols words others p q =
      let same : q.full ≡ p.full =
      run-once symbols q.full p.full (content 0 []) q.compressed.held p.compressed.held q.led p.led in
      words-once p.full words others p.compressed.words
      (subst (λ (c : Content). AreAllWordsOf c others) same q.compressed.words)
