-- Tables of weights as text.
use Rattle.std.specs.Prelude.{◌≡◌, ℕ, zero, suc, ◌-◌, ◌^◌, ◌<◌, ◌≤◌, List, [], ◌∷◌, ◌++◌, length, replicate, sum}
use Rattle.std.specs.Int.{w32, leading_zeros}
use Rattle.constriction_stored_weights.specs.Bits.{bits, bits_of_bytes}

-- how many bits a number below 2^32 has: none if it is 0
unfoldable pub bit_length : ℕ → ℕ
bit_length n = 32 - leading_zeros w32 n

-- a number below 2^15: four bits that say how many bits it has, and then those below its highest one
unfoldable pub number_bits : ℕ → List ℕ
number_bits n = bits 4 (bit_length n) ++ bits (bit_length n - 1) n

-- a run of zeros: the number 0 and how many zeros there are; no run if there are none
unfoldable pub run_bits : ℕ → List ℕ
run_bits zero = []
run_bits (suc more) = number_bits 0 ++ number_bits (suc more)

-- an entry: the zeros before a weight above 0, and the weight
abbrev pub entry_bits : ℕ → ℕ → List ℕ
entry_bits run weight = run_bits run ++ number_bits weight

-- weights after a run of zeros: an entry for each weight above 0, and nothing for the zeros after the last
abbrev pub weight_bits : ℕ → List ℕ → List ℕ
weight_bits run [] = []
weight_bits run (zero ∷ weights) = weight_bits (suc run) weights
weight_bits run (suc less ∷ weights) = entry_bits run (suc less) ++ weight_bits 0 weights

-- the weights of a table: at most 2^15, over 2^precision quantiles
pub record AreTableWeights (precision : ℕ) (weights : List ℕ) : Type 0 where
  pub few : length weights ≤ 2 ^ 15
  pub total : sum weights ≡ 2 ^ precision

-- the text of weights: bytes of their bits and of fewer than eight zeros after them
pub record IsTableText (weights text : List ℕ) : Type 0 where
  pub padding : ℕ
  pub fills : padding < 8
  pub bits_are : bits_of_bytes text ≡ weight_bits 0 weights ++ replicate padding 0

-- bytes that begin with the text of a table of as many weights
pub record BeginsWithTable (precision count : ℕ) (bytes : List ℕ) : Type 0 where
  pub weights : List ℕ
  pub text : List ℕ
  pub rest : List ℕ
  pub is_table : AreTableWeights precision weights
  pub counted : length weights ≡ count
  pub is_text : IsTableText weights text
  pub bytes_are : bytes ≡ text ++ rest

-- bytes that end within an entry, after weights that are fewer than a table's and over fewer quantiles
pub record EndsInTable (precision count : ℕ) (bytes : List ℕ) : Type 0 where
  pub weights : List ℕ
  pub run : ℕ
  pub weight : ℕ
  pub more : List ℕ
  pub below : sum weights < 2 ^ precision
  pub room : length weights < count
  pub some : 0 < weight
  pub goes_on : 0 < length more
  pub bits_are : bits_of_bytes bytes ++ more ≡ weight_bits 0 (weights ++ (replicate run 0 ++ weight ∷ []))
