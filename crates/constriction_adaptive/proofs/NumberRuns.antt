-- Numbers whose encoding stops.
use Rattle.std.proofs.Common.{◌≡◌, ◌≢◌, ℕ, ◌<◌, ◌≤◌, ◌^◌, suc, Bool, List, ◌∷◌, ◌++◌, append_assoc, fold, length, map, take, drop, get_or, refl, ap, sym, ◌∙◌}
use Rattle.std.specs.Prelude.{All}
use Rattle.std.proofs.lemmas.List.{map-append}
use Rattle.std.proofs.lemmas.List.Sums.{fold-append}
use Rattle.constriction_words.specs.declared.CoderError.{CoderError}
use Rattle.constriction_words.specs.declared.CoderError.TheVariants.{Frontend, Backend}
use Rattle.constriction_coders.proofs.Stopping.{split-at-symbol}
use Rattle.constriction_adaptive.specs.Numbers.{all_bits, bits_of, NumberEncodingStops}
use Rattle.constriction_adaptive.specs.Predicted.{AdaptiveEncodingStops, FirstAreLearned}
use Rattle.constriction_adaptive.specs.declared.error.EncoderFrontendError.{EncoderFrontendError}
use Rattle.constriction_adaptive.specs.declared.error.EncoderFrontendError.TheVariants.{ImpossibleSymbol, OutOfMemory}
use Rattle.constriction_adaptive.proofs.Bits.{all-bits-append}

module _ {State Word : Type 0} (next : State → Bool → State) (width : ℕ) (number : Word → ℕ) (xs : List Word) (i : ℕ) (x : Word)
    (less : i < length xs) (is : x ≡ get_or xs i x) (first between : State)
    (learned : between ≡ fold next first (all_bits width (map number (take i xs)))) where
  split : map number xs ≡ map number (take i xs) ++ number x ∷ map number (drop (suc i) xs)
  split = ap (map number) (split-at-symbol xs i x less is) ∙ map-append number (take i xs) (x ∷ drop (suc i) xs)

  module _ {C : Type 0} (Step : State × Bool → C → C → Type 0) (Fault : State × Bool → C → Type 0) (last : State) (old new : C) where
    -- some bits of a number were learned after those of the numbers before
    some-bits : AdaptiveEncodingStops next Step Fault (bits_of width (number x)) between old last new
        → FirstAreLearned next (all_bits width (map number xs)) first last
    some-bits s =
        let before = all_bits width (map number (take i xs)) in
        let after = all_bits width (map number (drop (suc i) xs)) in (
          before ++ s.done,
          s.symbol ∷ s.after ++ after,
          ap (all_bits width) split ∙ all-bits-append width (map number (take i xs)) (number x ∷ map number (drop (suc i) xs))
              ∙ ap (λ (bs : List Bool). before ++ (bs ++ after)) s.split
              ∙ ap (λ (bs : List Bool). before ++ bs) (append_assoc s.done (s.symbol ∷ s.after) after)
              ∙ sym (append_assoc before s.done (s.symbol ∷ s.after ++ after)),
          s.coded.learned ∙ ap (λ (t : State). fold next t s.done) learned ∙ sym (fold-append next first before s.done),
        )

    -- a number of more bits is not encoded, or memory is refused to one of its bits
    pub number-stops : {E : Type 0} (error : CoderError EncoderFrontendError E) → All (λ n. n < 2 ^ width) (map number (take i xs))
        → (error ≡ Frontend ImpossibleSymbol → 2 ^ width ≤ number x) → (error ≡ Frontend ImpossibleSymbol → last ≡ between)
        → (error ≢ Frontend ImpossibleSymbol → AdaptiveEncodingStops next Step Fault (bits_of width (number x)) between old last new)
        → NumberEncodingStops width next (map number xs) error first last
    number-stops (Frontend ImpossibleSymbol) small large unlearned stops =
        (map number (take i xs), number x, map number (drop (suc i) xs), split, small, large refl, unlearned refl ∙ learned)
    number-stops (Frontend OutOfMemory) small large unlearned stops = some-bits (stops (λ same. cc))
    number-stops (Backend error) small large unlearned stops = some-bits (stops (λ same. cc))

-- numbers that were not all encoded: some of their bits were learned
pub stops-learned : {State E : Type 0} (next : State → Bool → State) (width : ℕ) (numbers : List ℕ)
    (error : CoderError EncoderFrontendError E) (first last : State) → NumberEncodingStops width next numbers error first last
    → FirstAreLearned next (all_bits width numbers) first last
stops-learned next width numbers (Frontend ImpossibleSymbol) first last stops = (
  all_bits width stops.0,
  all_bits width (stops.1 ∷ stops.2),
  ap (all_bits width) stops.3 ∙ all-bits-append width stops.0 (stops.1 ∷ stops.2),
  stops.6,
)
stops-learned next width numbers (Frontend OutOfMemory) first last stops = stops
stops-learned next width numbers (Backend error) first last stops = stops
