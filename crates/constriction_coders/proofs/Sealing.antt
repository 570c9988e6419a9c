-- The words of a message.
use Rattle.std.proofs.Common.{◌≡◌, ℕ, zero, suc, ◌+◌, ◌-◌, ◌*◌, ◌/◌, ◌%◌, ◌^◌, ◌<◌, ◌≤◌, List, [], ◌∷◌, ◌++◌, length, get_or, ap, sym, ◌∙◌}
use Rattle.std.proofs.Common.{subst, arith, inl, inr}
use Rattle.std.specs.Bool.{OnFalse}
use Rattle.std.specs.Prelude.{◌≢◌, ◌↔◌, All, Bool, true, false, IsTrue}
use Rattle.std.proofs.lemmas.List.{append_assoc, length-append, length_push, nil_from_length}
use Rattle.std.proofs.lemmas.List.Elements.{All-append}
use Rattle.constriction_coders.specs.Intervals.{Interval, interval, MayBeAtEnd}
use Rattle.constriction_coders.specs.Numbers.{number_first, number_of}
use Rattle.constriction_coders.specs.RangeLaws.{SealedWordsTell}
use Rattle.constriction_coders.specs.Spans.{Span, span_of, IsPointOf, IsSealed, LeadTo}
use Rattle.constriction_coders.proofs.NumberLemmas.{number-push, first-append, first-more, word-fits}

module _ (words raised : List ℕ) (lower range point_lower : ℕ) (wide : 2 ^ 32 ≤ range)
    (point_is : number_of raised * 2 ^ 64 + point_lower ≡ number_of words * 2 ^ 64 + lower + (2 ^ 32 - 1))
    (long : length raised ≡ length words) where
  abbrev point : ℕ
  point = number_of raised * 2 ^ 32 + point_lower / 2 ^ 32

  -- if all numbers that begin with the point are in the span, it is written without the word of 0
  pub sealed-short : (all : List ℕ) → All (λ w. w < 2 ^ 32) all → all ≡ raised ++ point_lower / 2 ^ 32 ∷ []
      → ((lower + (2 ^ 32 - 1)) / 2 ^ 32 + 1) * 2 ^ 32 ≤ lower + range → IsPointOf (span_of words lower range) all
  sealed-short all fit is above =
      let number : number_of all ≡ point = ap number_of is ∙ number-push raised (point_lower / 2 ^ 32) in
      let many : length all ≡ length words + 1 =
      omega (arith, ap length is, length_push raised (point_lower / 2 ^ 32), long) in
      record {
        fit = fit;
        point = point;
        from = omega (arith, point_is);
        to = omega (arith, point_is, wide);
        least = omega (arith, point_is);
        is = inl (omega (arith, point_is, above), number, many);
      }

  -- if some number that begins with the point is above the span, it is written with the word of 0
  pub sealed-long : (all : List ℕ) → All (λ w. w < 2 ^ 32) all → all ≡ (raised ++ point_lower / 2 ^ 32 ∷ []) ++ 0 ∷ []
      → lower + range < ((lower + (2 ^ 32 - 1)) / 2 ^ 32 + 1) * 2 ^ 32 → IsPointOf (span_of words lower range) all
  sealed-long all fit is below =
      let number : number_of all ≡ point * 2 ^ 32 =
      omega (
        arith,
        ap number_of is,
        number-push (raised ++ point_lower / 2 ^ 32 ∷ []) 0,
        number-push raised (point_lower / 2 ^ 32),
      ) in
      let many : length all ≡ length words + 2 =
      omega (
        arith,
        ap length is,
        length_push (raised ++ point_lower / 2 ^ 32 ∷ []) 0,
        length_push raised (point_lower / 2 ^ 32),
        long,
      ) in
      record {
        fit = fit;
        point = point;
        from = omega (arith, point_is);
        to = omega (arith, point_is, wide);
        least = omega (arith, point_is);
        is = inr (omega (arith, point_is, below), number, many);
      }

-- whatever words come after a point, the number of all of them begins with it, and is in the span
point-first : (s : Span) (words more : List ℕ) → All (λ w. w < 2 ^ 32) (words ++ more) → (sealed : IsPointOf s words)
    → (sealed.point * 2 ^ 32 ≤ number_first (s.written + 2) (words ++ more))
    × (number_first (s.written + 2) (words ++ more) < (sealed.point + 1) * 2 ^ 32)
    × (number_first (s.written + 2) (words ++ more) < s.low + s.size)
point-first s words more fit sealed =
    let sum : s.written + 2 ≡ s.written + 1 + 1 = omega arith in
    let all : number_first (s.written + 2) (words ++ more)
    ≡ number_first (s.written + 1) (words ++ more) * 2 ^ 32 + get_or (words ++ more) (s.written + 1) 0 =
    ap (λ n. number_first n (words ++ more)) sum ∙ first-more (s.written + 1) (words ++ more) in
    let word = word-fits (words ++ more) fit (s.written + 1) in
    elim sealed.is [
      | inl short ↦
          let front : number_first (s.written + 1) (words ++ more) ≡ sealed.point =
          first-append (s.written + 1) words more (omega (arith, short.2))
          ∙ ap (λ n. number_first n words) (sym short.2) ∙ short.1 in
          (omega (arith, all, front, word), omega (arith, all, front, word), omega (arith, all, front, word, short.0))
      | inr rest ↦
          let front : number_first (s.written + 2) (words ++ more) ≡ sealed.point * 2 ^ 32 =
          first-append (s.written + 2) words more (omega (arith, rest.2))
          ∙ ap (λ n. number_first n words) (sym rest.2) ∙ rest.1 in
          (omega (arith, front), omega (arith, front), omega (arith, front, sealed.to))
    ]

-- the words that seal a span tell a number in it
pub sealed-tell : SealedWordsTell
sealed-tell s words more (inl none) fit = record {
  fit = subst (λ (ws : List ℕ). All (λ w. w < 2 ^ 32) (ws ++ more)) (sym none.1) fit;
  lies = λ some. absurd (some none.0);
}
sealed-tell s words more (inr point) fit =
    let all = All-append (λ w. w < 2 ^ 32) words more point.1.fit fit in
    let first = point-first s words more all point.1 in
    record {
      fit = all;
      lies = λ some. (omega (arith, first.0, point.1.from), first.2);
    }

-- after the last symbol a decoder may be at the end
pub ends-there : (s : Span) (words more : List ℕ) (i : Interval) → All (λ w. w < 2 ^ 32) (words ++ more) → IsSealed s words
    → i ≡ interval s.size (number_first (s.written + 2) (words ++ more) - s.low) → MayBeAtEnd i
ends-there s words more i fit (inl none) is = inl (ap (λ (x : Interval). x.range) is ∙ ap (λ (x : Span). x.size) none.0)
ends-there s words more i fit (inr point) is =
    let first = point-first s words more fit point.1 in
    inr (omega (arith, ap (λ (x : Interval). x.offset) is, first.1, point.1.least))

two-fit : (a b : ℕ) → a < 2 ^ 32 → b < 2 ^ 32 → All (λ (w : ℕ). w < 2 ^ 32) (a ∷ b ∷ [])
two-fit a b p q zero d h = p
two-fit a b p q (suc zero) d h = q
two-fit a b p q (suc (suc k)) d h = absurd (omega (arith, h))

-- the least number of a span leads to it
pub lower-tells : (words : List ℕ) (lower range : ℕ) → All (λ w. w < 2 ^ 32) words → lower < 2 ^ 64 → 2 ^ 32 ≤ range
    → LeadTo (span_of words lower range) (words ++ lower / 2 ^ 32 ∷ lower % 2 ^ 32 ∷ [])
lower-tells words lower range fit below wide =
    let high = lower / 2 ^ 32 in
    let low = lower % 2 ^ 32 in
    let all = words ++ high ∷ low ∷ [] in
    let number : number_of all ≡ (number_of words * 2 ^ 32 + high) * 2 ^ 32 + low =
    ap number_of (sym (append_assoc words (high ∷ []) (low ∷ []))) ∙ number-push (words ++ high ∷ []) low
    ∙ ap (λ n. n * 2 ^ 32 + low) (number-push words high) in
    let long : length all ≡ length words + 2 = omega (arith, length-append words (high ∷ low ∷ [])) in
    let first : number_first (length words + 2) all ≡ number_of words * 2 ^ 64 + lower =
    ap (λ n. number_first n all) (sym long) ∙ omega (arith, number) in
    record {
      fit = All-append (λ w. w < 2 ^ 32) words (high ∷ low ∷ []) fit (two-fit high low (omega (arith, below)) (omega arith));
      lies = λ some. (omega (arith, first), omega (arith, first, wide));
    }

-- if the last words are left, words are left
pub some-left : (first last : List ℕ) (ended : Bool) → IsTrue ended ↔ (last ≡ [])
    → OnFalse ended ((words : List ℕ) → words ≡ first ++ last → words ≢ [])
some-left first last true h = tt
some-left first last false h = λ words is none.
    let empty : last ≡ [] = nil_from_length last (omega (arith, ap length (sym is ∙ none), length-append first last)) in
    absurd (let wrong = h.1 empty in cc)
