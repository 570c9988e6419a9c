-- Three symbols, each of a model of its own, from the laws of a symbol.
use Rattle.std.proofs.Common.{◌≡◌, ℕ, ◌-◌, ◌^◌, ◌<◌, Bool, List, [], ◌++◌, Option, Result, ap, subst, arith}
use Rattle.std.proofs.lemmas.List.Elements.{All-nil}
use Rattle.constriction.specs.Coding.{StandsForEqual}
use Rattle.constriction.specs.Rows.{Row}
use Rattle.constriction_coders.specs.Intervals.{Held, IsRead}
use Rattle.constriction_coders.specs.Laws.{SymbolsComeBack}
use Rattle.constriction_coders.specs.RangeLaws.{IsAt, RangeSymbolsComeBack, SealedWordsTell}
use Rattle.constriction_coders.specs.Spans.{Span, whole, IsNarrowed, IsSealed}
use Rattle.constriction_coders.specs.Steps.{Content, IsDecoded, IsEncoded}

module _ {A B C : Type 0} (Stands : A → A → Type 0) (eq : A → A → Bool) (entry : A → Option (ℕ × ℕ)) (rows : List (Row A)) (precision : ℕ)
    (Stands₂ : B → B → Type 0) (eq₂ : B → B → Bool) (entry₂ : B → Option (ℕ × ℕ)) (rows₂ : List (Row B)) (precision₂ : ℕ)
    (Stands₃ : C → C → Type 0) (eq₃ : C → C → Bool) (entry₃ : C → Option (ℕ × ℕ)) (rows₃ : List (Row C)) (precision₃ : ℕ)
    (x answer : A) (y answer₂ : B) (z answer₃ : C) where
  abbrev AllBack : Type 0
  AllBack = StandsForEqual Stands eq x answer × StandsForEqual Stands₂ eq₂ y answer₂ × StandsForEqual Stands₃ eq₃ z answer₃

  -- from a stack, on which the first one lies on top
  pub three-taken : SymbolsComeBack entry precision Stands rows eq → SymbolsComeBack entry₂ precision₂ Stands₂ rows₂ eq₂
      → SymbolsComeBack entry₃ precision₃ Stands₃ rows₃ eq₃ → (held under₂ under full left₁ left₂ left₃ : Content)
      → IsEncoded (entry₃ z) precision₃ under₂ held → IsEncoded (entry₂ y) precision₂ under under₂
      → IsEncoded (entry x) precision full under → IsDecoded Stands rows precision answer full left₁
      → IsDecoded Stands₂ rows₂ precision₂ answer₂ left₁ left₂ → IsDecoded Stands₃ rows₃ precision₃ answer₃ left₂ left₃
      → AllBack × (left₃ ≡ held)
  three-taken law law₂ law₃ held under₂ under full left₁ left₂ left₃ e₃ e₂ e d d₂ d₃ =
      let first = law.symbol x answer full under left₁ e d in
      let second = law₂.symbol y answer₂ under under₂ left₂ e₂
      (subst (λ (c : Content). IsDecoded Stands₂ rows₂ precision₂ answer₂ c left₂) first.1 d₂) in
      let third = law₃.symbol z answer₃ under₂ held left₃ e₃
      (subst (λ (c : Content). IsDecoded Stands₃ rows₃ precision₃ answer₃ c left₃) second.1 d₃) in
      ((first.0, second.0, third.0), third.1)

  -- from a queue
  module _ {S E : Type 0} (gives : S → Result (Option ℕ) E → S → Type 0) (tells : S → List ℕ → Type 0) where
    -- the three are read in the order in which they were written, from the words that the encoder leaves
    pub three-read : RangeSymbolsComeBack Stands eq entry rows gives tells precision
        → RangeSymbolsComeBack Stands₂ eq₂ entry₂ rows₂ gives tells precision₂
        → RangeSymbolsComeBack Stands₃ eq₃ entry₃ rows₃ gives tells precision₃ → SealedWordsTell
        → (new old mid last : Span) (words : List ℕ) (start held₁ held₂ held₃ : Held S) → new ≡ whole
        → IsNarrowed (entry x) precision new old → IsNarrowed (entry₂ y) precision₂ old mid → IsNarrowed (entry₃ z) precision₃ mid last
        → IsSealed last words → IsAt tells whole (words ++ []) start → IsRead Stands rows gives precision answer start held₁
        → IsRead Stands₂ rows₂ gives precision₂ answer₂ held₁ held₂ → IsRead Stands₃ rows₃ gives precision₃ answer₃ held₂ held₃ → AllBack
    three-read law law₂ law₃ tell new old mid last words start held₁ held₂ held₃ is e e₂ e₃ sealed starts d d₂ d₃ =
        let begun : IsNarrowed (entry x) precision whole old = rw is at e in
        let less : old.size < 2 ^ 64 - 1 = law.leaves x whole old begun (omega arith) in
        let fewer : mid.size < 2 ^ 64 - 1 = law₂.leaves y old mid e₂ (omega (arith, less)) in
        let fewest : last.size < 2 ^ 64 - 1 = law₃.leaves z mid last e₃ (omega (arith, fewer)) in
        let message = tell last words [] sealed (All-nil (λ (w : ℕ). w < 2 ^ 32)) in
        let lies = message.lies (λ all. omega (arith, fewest, ap (λ (s : Span). s.size) all)) in
        let before = law₃.before z mid last (words ++ []) message.fit e₃ lies in
        let there = law.symbol x answer whole old (words ++ []) start held₁ message.fit begun
        (law₂.before y old mid (words ++ []) message.fit e₂ before) starts d in
        let there₂ = law₂.symbol y answer₂ old mid (words ++ []) held₁ held₂ message.fit e₂ before there.1 d₂ in
        (there.0, there₂.0, (law₃.symbol z answer₃ mid last (words ++ []) held₂ held₃ message.fit e₃ lies there₂.1 d₃).0)
