-- The contents of blocks: bytes by kinds.
use Rattle.std.specs.Prelude.{
  ◌≡◌,
  ℕ,
  ◌+◌,
  ◌-◌,
  ◌/◌,
  ◌%◌,
  ◌^◌,
  ◌<◌,
  ◌≤◌,
  List,
  [],
  ◌∷◌,
  ◌++◌,
  Bool,
  length,
  replicate,
  nat_eq,
  nat_lt,
  if◌then◌else◌,
}
use Rattle.std.specs.List.{flat_map}
use Rattle.constriction.specs.Acceptance.{IsAccepted}
use Rattle.constriction.specs.Rows.{Row, contiguous_rows, entry_of}
use Rattle.constriction_coders.specs.Bytes.{bytes_of_words}
use Rattle.constriction_coders.specs.StackMessages.{IsStackOf}
use Rattle.constriction_adaptive.specs.Numbers.{AreReadFrom}
use Rattle.constriction_adaptive.specs.Mixer.{MixerState, mixer_after, mixer_begun, mixer_rows}
use Rattle.constriction_pack.specs.Matched.{IsMatched}
use Rattle.constriction_pack.specs.declared.kind.TheConstants.{FEW_CONTEXTS, FEW_FOLLOWERS, FEW_GROUPS, FEW_REACH}
use Rattle.constriction_pack.specs.declared.kind.TheConstants.{MANY_CONTEXTS, MANY_FOLLOWERS, MANY_GROUPS, MANY_REACH}
use Rattle.constriction_pack.specs.declared.kind.Kind.{Kind}
use Rattle.constriction_pack.specs.declared.kind.Kind.TheVariants.{Stored, Repeated, Weighted}
use Rattle.constriction_pack.specs.declared.kind.Kind.TheVariants.{FewContexts, ManyContexts, Matched}

-- the number of a kind
abbrev pub kind_number : Kind → ℕ
kind_number Stored = 0
kind_number Repeated = 1
kind_number Weighted = 2
kind_number FewContexts = 3
kind_number ManyContexts = 4
kind_number Matched = 5

-- as many times the same byte: their number in four bytes, and the byte
pub record IsRepeated (bytes content : List ℕ) : Type 0 where
  pub some : 0 < length bytes
  pub short : length bytes ≤ 2 ^ 23
  pub byte : ℕ
  pub same : bytes ≡ replicate (length bytes) byte
  pub laid_out : content ≡ bytes_of_words (length bytes ∷ []) ++ byte ∷ []

-- the words of a stack with these bytes, the first one on top, where the bytes 0, 1, .. have these
-- weights over 2 ^ 16
pub record IsCoded (bytes weights words : List ℕ) : Type 0 where
  pub some : 0 < length bytes
  pub few : length weights ≤ 256
  pub accepted : IsAccepted 32 16 weights
  pub stack : IsStackOf (entry_of nat_eq (contiguous_rows weights)) 16 bytes words

-- a number in LEB128 of at most three bytes: seven bits each, the lowest first, and 128 more in
-- each byte but the last
abbrev pub leb128 : ℕ → List ℕ
leb128 n = if nat_lt n 128 then n ∷ []
    else (if nat_lt n 16384 then (n % 128 + 128) ∷ n / 128 ∷ []
    else (n % 128 + 128) ∷ (n / 128 % 128 + 128) ∷ n / 16384 ∷ [])

-- each weight less one in LEB128
abbrev pub bytes_of_weights : List ℕ → List ℕ
bytes_of_weights weights = flat_map (λ w. leb128 (w - 1)) weights

-- bytes that are coded by weights: how many bytes there are, in four bytes; one less than the
-- number of weights; the weights; and the words
pub record IsWeighted (bytes content : List ℕ) : Type 0 where
  pub short : length bytes ≤ 2 ^ 23
  pub weights : List ℕ
  pub words : List ℕ
  pub coded : IsCoded bytes weights words
  pub laid_out : content ≡ bytes_of_words (length bytes ∷ []) ++ ((length weights - 1) ∷ (bytes_of_weights weights ++ bytes_of_words words))

-- Bytes whose bits are predicted, from the state `first` on: how many bytes there are, in four
-- bytes; and words from which they are read.
pub record IsPredicted {State : Type 0} (rows : State → List (Row Bool)) (next : State → Bool → State) (first : State)
    (bytes content : List ℕ) : Type 0 where
  pub some : 0 < length bytes
  pub short : length bytes ≤ 2 ^ 23
  pub words : List ℕ
  pub read : AreReadFrom 8 rows next first bytes words
  pub laid_out : content ≡ bytes_of_words (length bytes ∷ []) ++ bytes_of_words words

-- mixers that learned nothing: of two contexts, and of six
abbrev pub few_contexts : MixerState
few_contexts = mixer_begun FEW_CONTEXTS FEW_GROUPS FEW_FOLLOWERS FEW_REACH

-- the mixer of many contexts, before the first bit
abbrev pub many_contexts : MixerState
many_contexts = mixer_begun MANY_CONTEXTS MANY_GROUPS MANY_FOLLOWERS MANY_REACH

-- the content of a block of this kind with these bytes
abbrev pub IsContent : Kind → List ℕ → List ℕ → Type 0
IsContent Stored bytes content = (length bytes ≤ 2 ^ 23) × (content ≡ bytes)
IsContent Repeated bytes content = IsRepeated bytes content
IsContent Weighted bytes content = IsWeighted bytes content
IsContent FewContexts bytes content = IsPredicted mixer_rows mixer_after few_contexts bytes content
IsContent ManyContexts bytes content = IsPredicted mixer_rows mixer_after many_contexts bytes content
IsContent Matched bytes content = IsMatched bytes content
