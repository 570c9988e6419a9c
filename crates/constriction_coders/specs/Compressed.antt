-- A coder as words alone.
use Rattle.std.specs.Prelude.{◌≡◌, ℕ, ◌+◌, ◌*◌, ◌/◌, ◌%◌, ◌^◌, ◌<◌, ◌≤◌, ◌⊎◌, List, [], ◌∷◌, ◌++◌, length}
use Rattle.constriction_coders.specs.Steps.{Content, MayBeHeld}

-- all words of a content: those under the state, and then those of the state, the lower one first and without a leading zero
abbrev pub AreAllWordsOf : Content → List ℕ → Type 0
AreAllWordsOf c all =
    ((c.state ≡ 0) × (all ≡ c.words))
    ⊎ ((0 < c.state) × (c.state < 2 ^ 32) × (all ≡ c.words ++ c.state ∷ []))
    ⊎ ((2 ^ 32 ≤ c.state) × (all ≡ c.words ++ c.state % 2 ^ 32 ∷ c.state / 2 ^ 32 ∷ []))

-- a coder may hold this content, and these are all of its words
pub record IsCompressed (c : Content) (all : List ℕ) : Type 0 where
  pub held : MayBeHeld c
  pub words : AreAllWordsOf c all

-- the coder holds the bits of these words, and a one-bit on top of them
abbrev pub IsBinary : Content → List ℕ → Type 0
IsBinary c words = IsCompressed c (words ++ 1 ∷ [])

-- so many bits lie below the highest one-bit of a content; one without such a bit has none
abbrev pub HasValidBits : Content → ℕ → Type 0
HasValidBits c bits =
    ((c.state ≡ 0) × (bits ≡ 0))
    ⊎ ((top : ℕ) × (2 ^ top ≤ c.state) × (c.state < 2 * 2 ^ top) × (bits ≡ 32 * length c.words + top))
