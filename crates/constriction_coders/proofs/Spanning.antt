-- The number of the words of a message is in each of its spans, and a message with a symbol leaves the span of none.
use Rattle.std.proofs.Common.{◌≡◌, ℕ, ◌+◌, ◌-◌, ◌*◌, ◌/◌, ◌^◌, ◌<◌, List, [], ◌∷◌, get_or, Option, refl, ap, sym, ◌∙◌, subst, arith, inl}
use Rattle.std.proofs.Common.{inr}
use Rattle.std.specs.Prelude.{All}
use Rattle.constriction_model.specs.Coding.{InTurn}
use Rattle.constriction_coders.specs.Numbers.{number_first}
use Rattle.constriction_coders.specs.Spans.{Span, span, whole, part_in, IsWidened, IsNarrowed, IsReached, LiesIn}
use Rattle.constriction_coders.proofs.Narrowing.{part-within, part-less, unit-within}
use Rattle.constriction_coders.proofs.NumberLemmas.{word-fits, first-more}

module _ (words : List ℕ) (fit : All (λ w. w < 2 ^ 32) words) where
  -- words in a span that was widened lie in the span before
  pub lies-unwidened : (part new : Span) → IsWidened part new → LiesIn new words → LiesIn part words
  lies-unwidened part new (inl same) lies = subst (λ (s : Span). LiesIn s words) same.1 lies
  lies-unwidened part new (inr wider) lies =
      let there : LiesIn (span (part.low * 2 ^ 32) (part.size * 2 ^ 32) (part.written + 1)) words =
      subst (λ (s : Span). LiesIn s words) wider.1 lies in
      let sum : part.written + 1 + 2 ≡ part.written + 2 + 1 = omega arith in
      let more : number_first (part.written + 1 + 2) words
      ≡ number_first (part.written + 2) words * 2 ^ 32 + get_or words (part.written + 2) 0 =
      ap (λ n. number_first n words) sum ∙ first-more (part.written + 2) words in
      let word = word-fits words fit (part.written + 2) in
      (omega (arith, there.0, more, word), omega (arith, there.1, more, word))

module _ {Symbol : Type 0} (entry : Symbol → Option (ℕ × ℕ)) (precision : ℕ) where
  -- words in a span after a symbol lie in the span before it
  pub lies-back : (symbol : Symbol) (old new : Span) (words : List ℕ) → All (λ w. w < 2 ^ 32) words
      → IsNarrowed (entry symbol) precision old new → LiesIn new words → LiesIn old words
  lies-back symbol old new words fit e lies =
      let part = lies-unwidened words fit (part_in precision e.left e.weight old) new e.next lies in
      let within = part-within precision old.size (old.size / 2 ^ precision) e.left e.weight (unit-within old.size precision) e.within in
      (omega (arith, part.0), omega (arith, part.1, within))

  -- the same of several symbols
  pub lies-run : (words : List ℕ) → All (λ w. w < 2 ^ 32) words → (symbols : List Symbol) (s last : Span)
      → InTurn (λ s. IsNarrowed (entry s) precision) symbols s last → LiesIn last words → LiesIn s words
  lies-run words fit [] s last same lies = subst (λ (x : Span). LiesIn x words) (sym same) lies
  lies-run words fit (x ∷ xs) s last e lies = lies-back x s e.0 words fit e.1 (lies-run words fit xs e.0 last e.2 lies)

  module _ (positive : 0 < precision) where
    -- a symbol leaves less than the whole
    pub leaves-whole : (symbol : Symbol) (old new : Span) → IsNarrowed (entry symbol) precision old new → old.size < 2 ^ 64
        → new.size < 2 ^ 64 - 1
    leaves-whole symbol s new e bound = go e.next
      where
        go : IsWidened (part_in precision e.left e.weight s) new → new.size < 2 ^ 64 - 1
        go (inl same) =
            let less = part-less precision s.size (s.size / 2 ^ precision) e.left e.weight positive (unit-within s.size precision) bound
            e.within in
            omega (arith, less, ap (λ (x : Span). x.size) same.1)
        go (inr wider) = omega (arith, wider.0, ap (λ (x : Span). x.size) wider.1)

    size-run : (symbols : List Symbol) (s last : Span) → s.size < 2 ^ 64 - 1 → InTurn (λ s. IsNarrowed (entry s) precision) symbols s last
        → last.size < 2 ^ 64 - 1
    size-run [] s last less same = omega (arith, less, ap (λ (x : Span). x.size) same)
    size-run (x ∷ xs) s last less e = size-run xs e.0 last (leaves-whole x s e.0 e.1 (omega (arith, less))) e.2

    -- symbols do not lead to the span of none
    pub some-symbol : (x : Symbol) (xs : List Symbol) (s last : Span) → s.size < 2 ^ 64
        → InTurn (λ s. IsNarrowed (entry s) precision) (x ∷ xs) s last
        → last ≡ whole → ⊥
    some-symbol x xs s last bound e all =
        let less = size-run xs e.0 last (leaves-whole x s e.0 e.1 bound) e.2 in
        omega (arith, less, ap (λ (t : Span). t.size) all)

-- the span of no symbol is one of a message
pub whole-reached : IsReached whole
whole-reached = record { wide = omega arith; fits = omega arith; within = omega arith; begun = λ _. refl }
