-- A mixer of hashed contexts, which predicts the bits of bytes.
use Rattle.std.specs.Prelude.{◌+◌, ◌*◌, ℕ, List, [], length, map, replicate, Bool, slice_index, slice_index_or, slice_set}
use Rattle.constriction_model.specs.Rows.{Row}
use Rattle.constriction_adaptive.specs.Bit.{at_least_one, bit_rows}
use Rattle.constriction_adaptive.specs.Contexts.{even_weights}
use Rattle.constriction_adaptive.specs.Mixing.{error_of, mixed, place, slots_moved, squash, strength, weights_after}
use Rattle.constriction_adaptive.specs.Past.{PastState, followed, past_after, past_begun}

pub record MixerState : Type 0 where
  -- how many of the last bytes each context sees; 0 sees what is foretold
  pub contexts : List ℕ
  -- weights of 0, in groups of 16 for the bits of half a byte in a context
  pub groups : ℕ
  pub slots : List ℕ
  -- how much each context counts, by how many bytes in a row were foretold
  pub weights : List (List ℕ)
  pub past : PastState

-- the same, from its parts
abbrev pub mixer_state : (contexts : List ℕ) (groups : ℕ) (slots : List ℕ) (weights : List (List ℕ)) (past : PastState) → MixerState
mixer_state contexts groups slots weights past =
    record { contexts = contexts; groups = groups; slots = slots; weights = weights; past = past }

-- the first slot of each context
abbrev pub places_in : (groups : ℕ) → PastState → (contexts : List ℕ) → List ℕ
places_in groups past contexts = map (place groups past.history past.half (followed past)) contexts

-- those of the contexts of a mixer
abbrev pub places_of : MixerState → List ℕ
places_of m = places_in m.groups m.past m.contexts

-- how strongly each context speaks for 0
abbrev pub strengths_of : MixerState → List ℕ
strengths_of m = map (λ p. strength (slice_index m.slots (p + m.past.path))) (places_of m)

-- how much each context counts now
abbrev pub row : MixerState → List ℕ
row m = slice_index_or m.weights m.past.told []

-- the weight of 0 for the next bit
abbrev pub predicted : MixerState → ℕ
predicted m = squash (mixed (row m) (strengths_of m))

-- the rows of the next bit
abbrev pub mixer_rows : MixerState → List (Row Bool)
mixer_rows m = bit_rows (at_least_one (predicted m))

-- the state after a bit
abbrev pub mixer_after : MixerState → Bool → MixerState
mixer_after m bit = record {
  contexts = m.contexts;
  groups = m.groups;
  slots = slots_moved bit m.past.path (places_of m) m.slots;
  weights = slice_set m.weights m.past.told (weights_after bit (error_of bit (predicted m)) (strengths_of m) (row m));
  past = past_after bit m.past;
}

-- the weights of so many inputs, before they learned anything, for each number of bytes in a row that were foretold
unfoldable pub even_rows : ℕ → List (List ℕ)
even_rows inputs = replicate 16 (replicate inputs 16384)

-- nothing was learned
abbrev pub mixer_begun : (contexts : List ℕ) → (groups followers reach : ℕ) → MixerState
mixer_begun contexts groups followers reach = record {
  contexts = contexts;
  groups = groups;
  slots = even_weights (16 * groups);
  weights = even_rows (length contexts);
  past = past_begun followers reach;
}
