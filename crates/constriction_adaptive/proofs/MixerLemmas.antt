-- What the contexts of a mixer say, written in turn.
use Rattle.std.proofs.Common.{◌≡◌, ◌∙◌, ◌+◌, ◌*◌, ◌^◌, ◌<◌, ◌≤◌, ℕ, arith, [], List, ap, map, subst, slice_index, slice_index_or}
use Rattle.std.proofs.lemmas.Nat.{mul-le}
use Rattle.constriction_adaptive.specs.Mixer.{MixerState, places_of, predicted, row, strengths_of}
use Rattle.constriction_adaptive.specs.Mixing.{mixed, squash, strength}

-- so few inputs of so many bytes each fit in memory
pub small : (inputs bytes : ℕ) → inputs ≤ 16 → bytes ≤ 8 → inputs * bytes < 2 ^ 63
small inputs bytes few narrow = omega (arith, mul-le inputs bytes 16 8 few narrow)

-- the strengths, asked at the places of the contexts
pub strengths_by : (m : MixerState) (slots places strengths : List ℕ) → slots ≡ m.slots → places ≡ places_of m
    → strengths ≡ map (λ p. strength (slice_index slots (p + m.past.path))) places → strengths ≡ strengths_of m
strengths_by m slots places strengths is are e =
    subst (λ ss. strengths ≡ map (λ p. strength (slice_index ss (p + m.past.path))) (places_of m)) is
    (subst (λ ps. strengths ≡ map (λ p. strength (slice_index slots (p + m.past.path))) ps) are e)

-- the weight of 0, where the strengths are known
pub predicted_by : (m : MixerState) (weights : List (List ℕ)) (strengths : List ℕ) (weight : ℕ) → weights ≡ m.weights
    → strengths ≡ strengths_of m → weight ≡ squash (mixed (slice_index_or weights m.past.told []) strengths) → weight ≡ predicted m
predicted_by m weights strengths weight are say e =
    e
    ∙ ap (λ ws. squash (mixed (slice_index_or ws m.past.told []) strengths)) are
    ∙ ap (λ ss. squash (mixed (row m) ss)) say
