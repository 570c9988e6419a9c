-- Bits that begin with an entry or with a table, or end within one.
use Rattle.std.specs.Prelude.{◌≡◌, ℕ, ◌+◌, ◌*◌, ◌^◌, ◌<◌, ◌≤◌, List, [], ◌∷◌, ◌++◌, length, replicate, sum}
use Rattle.constriction_stored_weights.specs.Bits.{bits}
use Rattle.constriction_stored_weights.specs.Tables.{number_bits, entry_bits, weight_bits, AreTableWeights}

-- bits that begin with an entry
pub record BeginsWithEntry (bits : List ℕ) : Type 0 where
  pub run : ℕ
  pub weight : ℕ
  pub rest : List ℕ
  pub run_fits : run < 2 ^ 15
  pub some : 0 < weight
  pub weight_fits : weight < 2 ^ 15
  pub bits_are : bits ≡ entry_bits run weight ++ rest

-- bits that begin with the weights of a table
pub record BeginsWithWeights (precision count : ℕ) (bits : List ℕ) : Type 0 where
  pub weights : List ℕ
  pub rest : List ℕ
  pub is_table : AreTableWeights precision weights
  pub counted : length weights ≡ count
  pub bits_are : bits ≡ weight_bits 0 weights ++ rest

-- fewer bits than this, which are the lowest of a number below these
pub record EndsInBits (above count : ℕ) (given : List ℕ) : Type 0 where
  pub taken : ℕ
  pub number : ℕ
  pub few : taken < count
  pub least : above * 2 ^ taken ≤ number
  pub most : number < (above + 1) * 2 ^ taken
  pub bits_are : given ≡ bits taken number

-- bits that a number above 0 goes on from
pub record EndsInNumber (given : List ℕ) : Type 0 where
  pub number : ℕ
  pub more : List ℕ
  pub some : 0 < number
  pub fits : number < 2 ^ 15
  pub goes_on : 0 < length more
  pub bits_are : given ++ more ≡ number_bits number

-- bits that an entry goes on from
pub record EndsInEntry (given : List ℕ) : Type 0 where
  pub run : ℕ
  pub weight : ℕ
  pub more : List ℕ
  pub some : 0 < weight
  pub goes_on : 0 < length more
  pub bits_are : given ++ more ≡ entry_bits run weight

-- bits that end within the entry after weights over fewer quantiles than a table's
pub record EndsInTableBits (precision count : ℕ) (given : List ℕ) : Type 0 where
  pub weights : List ℕ
  pub run : ℕ
  pub weight : ℕ
  pub more : List ℕ
  pub below : sum weights < 2 ^ precision
  pub room : length weights < count
  pub some : 0 < weight
  pub goes_on : 0 < length more
  pub bits_are : given ++ more ≡ weight_bits 0 (weights ++ (replicate run 0 ++ weight ∷ []))
