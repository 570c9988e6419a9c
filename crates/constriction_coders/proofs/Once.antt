-- Symbols have one message.
use Rattle.std.proofs.Common.{◌≡◌, ℕ, suc, zero, ◌+◌, ◌*◌, ◌^◌, ◌<◌, ◌≤◌, ◌⊎◌, List, [], ◌∷◌, Option, length, get_or, ap, sym, ◌∙◌, subst}
use Rattle.std.proofs.Common.{arith, inl, inr}
use Rattle.std.specs.Prelude.{All}
use Rattle.std.proofs.lemmas.Bool.{cases_eq}
use Rattle.std.proofs.lemmas.List.{ext_get_or}
use Rattle.constriction_model.specs.Coding.{InTurn}
use Rattle.constriction_coders.specs.Numbers.{number_first, number_of}
use Rattle.constriction_coders.specs.RangeLaws.{MessageOnce}
use Rattle.constriction_coders.specs.Spans.{Span, whole, part_in, IsWidened, IsNarrowed, IsPointOf, IsSealed}
use Rattle.constriction_coders.proofs.NumberLemmas.{word-fits}
use Rattle.constriction_coders.proofs.Steps.{one-entry}

widened-once : (s a b : Span) → IsWidened s a → IsWidened s b → a ≡ b
widened-once s a b p q = grind arith

module _ {Symbol : Type 0} (entry : Symbol → Option (ℕ × ℕ)) (precision : ℕ) where
  narrowed-once : (symbol : Symbol) (old a b : Span) → IsNarrowed (entry symbol) precision old a → IsNarrowed (entry symbol) precision old b
      → a ≡ b
  narrowed-once symbol old a b p q =
      let same = one-entry (entry symbol) q.left q.weight p.left p.weight q.known p.known in
      widened-once (part_in precision p.left p.weight old) a b p.next (rw (same.0, same.1) at q.next)

  pub run-once : (symbols : List Symbol) (s a b : Span) → InTurn (λ s. IsNarrowed (entry s) precision) symbols s a
      → InTurn (λ s. IsNarrowed (entry s) precision) symbols s b → a ≡ b
  run-once [] s a b p q = sym p ∙ q
  run-once (x ∷ xs) s a b p q =
      run-once xs p.0 a b p.2
      (subst (λ (t : Span). InTurn (λ s. IsNarrowed (entry s) precision) xs t b) (narrowed-once x s q.0 p.0 q.1 p.1) q.2)

-- as many words with the same number are the same words
module _ (a b : List ℕ) (fit : All (λ w. w < 2 ^ 32) a) (fine : All (λ w. w < 2 ^ 32) b) where
  fronts-once : (n : ℕ) → number_first (suc n) a ≡ number_first (suc n) b
      → (number_first n a ≡ number_first n b) × (get_or a n 0 ≡ get_or b n 0)
  fronts-once n same =
      let x = word-fits a fit n in
      let y = word-fits b fine n in
      (omega (arith, same, x, y), omega (arith, same, x, y))

  words-at : (n : ℕ) → number_first n a ≡ number_first n b → (k : ℕ) → k < n → get_or a k 0 ≡ get_or b k 0
  words-at zero same k h = absurd (omega (arith, h))
  words-at (suc n) same k h =
      let front = fronts-once n same in
      elim (cases_eq k n) [
        | inl last ↦ rw last front.1
        | inr other ↦ words-at n front.0 k (omega (arith, h, other))
      ]

  words-once : length a ≡ length b → number_of a ≡ number_of b → a ≡ b
  words-once long same =
      ext_get_or 0 a b long (words-at (length a) (same ∙ ap (λ n. number_first n b) (sym long)))

point-once : (s : Span) (a b : List ℕ) → IsPointOf s a → IsPointOf s b → a ≡ b
point-once s a b p q = go p.is q.is
  where
    one : p.point ≡ q.point
    one = omega (arith, p.from, p.least, q.from, q.least)

    go : (((p.point + 1) * 2 ^ 32 ≤ s.low + s.size) × (number_of a ≡ p.point) × (length a ≡ s.written + 1))
        ⊎ ((s.low + s.size < (p.point + 1) * 2 ^ 32) × (number_of a ≡ p.point * 2 ^ 32) × (length a ≡ s.written + 2))
        → (((q.point + 1) * 2 ^ 32 ≤ s.low + s.size) × (number_of b ≡ q.point) × (length b ≡ s.written + 1))
        ⊎ ((s.low + s.size < (q.point + 1) * 2 ^ 32) × (number_of b ≡ q.point * 2 ^ 32) × (length b ≡ s.written + 2))
        → a ≡ b
    go (inl x) (inl y) = words-once a b p.fit q.fit (omega (arith, x.2, y.2)) (omega (arith, x.1, y.1, one))
    go (inl x) (inr y) = absurd (omega (arith, x.0, y.0, one))
    go (inr x) (inl y) = absurd (omega (arith, x.0, y.0, one))
    go (inr x) (inr y) = words-once a b p.fit q.fit (omega (arith, x.2, y.2)) (omega (arith, x.1, y.1, one))

sealed-once : (s : Span) (a b : List ℕ) → IsSealed s a → IsSealed s b → a ≡ b
sealed-once s a b (inl p) (inl q) = p.1 ∙ sym q.1
sealed-once s a b (inl p) (inr q) = absurd (q.0 p.0)
sealed-once s a b (inr p) (inl q) = absurd (p.0 q.0)
sealed-once s a b (inr p) (inr q) = point-once s a b p.1 q.1

-- symbols have one message
pub message-once : {Symbol : Type 0} (entry : Symbol → Option (ℕ × ℕ)) (precision : ℕ) → MessageOnce entry precision
message-once entry precision symbols a b p q =
    let same : q.0 ≡ p.0 = run-once entry precision symbols whole q.0 p.0 q.1 p.1 in
    sealed-once p.0 a b p.2 (subst (λ (s : Span). IsSealed s b) same q.2)
