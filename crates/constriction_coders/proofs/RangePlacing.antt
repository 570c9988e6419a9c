-- A place keeps its meaning: whatever is encoded after it, the number of the message lies in the span that was noted, though a carry may
-- have changed the words before the place.
use Rattle.std.proofs.Common.{◌≡◌, ℕ, ◌+◌, ◌-◌, ◌*◌, ◌^◌, ◌<◌, ◌≤◌, List, [], ◌∷◌, length, get_or, Option, Result, Ok, Err, refl, ap, sym}
use Rattle.std.proofs.Common.{◌∙◌, subst, arith, inl, inr}
use Rattle.std.specs.Prelude.{All, IsOk}
use Rattle.std.proofs.lemmas.List.{length-append}
use Rattle.constriction_model.specs.Coding.{InTurn}
use Rattle.constriction_coders.specs.Intervals.{Held, interval}
use Rattle.constriction_coders.specs.Numbers.{number_first}
use Rattle.constriction_coders.specs.RangeLaws.{IsAt}
use Rattle.constriction_coders.specs.RangePositions.{place_of, distance_at, SeeksSpan, RangePlaceComesBack}
use Rattle.constriction_coders.specs.Spans.{Span, whole, IsNarrowed, IsSealed, LeadTo}
use Rattle.constriction_coders.proofs.NumberLemmas.{first-more, word-fits}
use Rattle.constriction_coders.proofs.Sealing.{sealed-tell}
use Rattle.constriction_coders.proofs.Spanning.{lies-run, some-symbol}

-- the number of some words, and of two more
pub first-two-more : (k : ℕ) (words : List ℕ)
    → number_first (k + 2) words ≡ number_first k words * 2 ^ 64 + (get_or words k 0 * 2 ^ 32 + get_or words (k + 1) 0)
first-two-more k words =
    let sum : k + 2 ≡ k + 1 + 1 = omega arith in
    omega (arith, ap (λ n. number_first n words) sum, first-more (k + 1) words, first-more k words)

module _ (noted : Span) (words : List ℕ) (fits : noted.size < 2 ^ 64) (from : noted.low ≤ number_first (noted.written + 2) words)
    (to : number_first (noted.written + 2) words ≤ noted.low + noted.size) where
  -- the distance modulo 2 ^ 64 is the distance in the span
  distance-is : distance_at (place_of noted) words ≡ number_first (noted.written + 2) words - noted.low
  distance-is = omega (arith, from, to, fits)

  pub sought : {S : Type 0} (tells : S → List ℕ → Type 0) (old new : Held S) (r : Result (Unit {0}) (Unit {0})) → 2 ^ 32 ≤ noted.size
      → noted.written ≤ length words → SeeksSpan tells words old (place_of noted) r new → IsOk r × IsAt tells noted words new
  sought tells old new (Ok x) wide there h =
      (refl, record { held = h.1 ∙ ap (λ d. interval noted.size d) distance-is; known = h.2 })
  sought tells old new (Err x) wide there (inl short, same) = absurd (omega (arith, short, there))
  sought tells old new (Err x) wide there (inr (inl small), same) = absurd (omega (arith, small, wide))
  sought tells old new (Err x) wide there (inr (inr above), same) = absurd (omega (arith, above, distance-is, to))

-- the words of a message are more than were written
written-sealed : (s : Span) (words : List ℕ) → IsSealed s words → s.written ≤ length words
written-sealed s words (inl none) = omega (arith, ap (λ (x : Span). x.written) none.0)
written-sealed s words (inr point) =
    elim point.1.is [ inl short ↦ omega (arith, short.2) | inr rest ↦ omega (arith, rest.2) ]

module _ {Symbol S : Type 0} (entry : Symbol → Option (ℕ × ℕ)) (precision : ℕ) (positive : 0 < precision) (tells : S → List ℕ → Type 0)
  where
    written-run : (symbols : List Symbol) (s last : Span) → InTurn (λ s. IsNarrowed (entry s) precision) symbols s last
        → s.written ≤ last.written
    written-run [] s last same = omega (arith, ap (λ (x : Span). x.written) same)
    written-run (x ∷ xs) s last e =
        let rest = written-run xs e.0 last e.2 in
        elim e.1.next [
          | inl same ↦ omega (arith, rest, ap (λ (x : Span). x.written) same.1)
          | inr wider ↦ omega (arith, rest, ap (λ (x : Span). x.written) wider.1)
        ]

    -- no symbol was encoded: any words have a number of the whole
    in-whole : (words : List ℕ) → All (λ w. w < 2 ^ 32) words → number_first 2 words ≤ 2 ^ 64 - 1
    in-whole words fit = omega (arith, first-two-more 0 words, word-fits words fit 0, word-fits words fit 1)

    near : (symbols : List Symbol) (noted last : Span) (words : List ℕ) → noted.size < 2 ^ 64 → All (λ w. w < 2 ^ 32) words
        → InTurn (λ s. IsNarrowed (entry s) precision) symbols noted last → last ≡ whole
        → (noted.low ≤ number_first (noted.written + 2) words) × (number_first (noted.written + 2) words ≤ noted.low + noted.size)
    near [] noted last words bound fit same none =
        subst (λ (s : Span). (s.low ≤ number_first (s.written + 2) words) × (number_first (s.written + 2) words ≤ s.low + s.size))
        (sym (same ∙ none)) (omega arith, in-whole words fit)
    near (x ∷ xs) noted last words bound fit e none = absurd (some-symbol entry precision positive x xs noted last bound e none)

    -- a place that was noted in a queue can be gone back to
    pub range-place-back : RangePlaceComesBack entry precision tells
    range-place-back symbols noted last words more there old new r reached led sealed fit is moved =
        let told : LeadTo last there = rw is (sealed-tell last words more sealed fit) in
        let far : noted.written ≤ length there =
        omega (arith, written-run symbols noted last led, written-sealed last words sealed, ap length is, length-append words more) in
        elim sealed [
          | inl none ↦
              let lies = near symbols noted last there reached.fits told.fit led none.0 in
              sought noted there reached.fits lies.0 lies.1 tells old new r reached.wide far moved
          | inr point ↦
              let lies = lies-run entry precision there told.fit symbols noted last led (told.lies point.0) in
              sought noted there reached.fits lies.0 (omega (arith, lies.1)) tells old new r reached.wide far moved
        ]
