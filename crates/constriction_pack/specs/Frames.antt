-- The frames of a packed file: contents behind headers and before checksums.
use Rattle.std.specs.Prelude.{
  ◌≡◌,
  ℕ,
  ◌+◌,
  ◌*◌,
  ◌/◌,
  ◌%◌,
  ◌^◌,
  ◌≤◌,
  Bool,
  List,
  [],
  ◌∷◌,
  ◌++◌,
  Option,
  None,
  Some,
  length,
  bit_xor,
  if◌then◌else◌,
}
use Rattle.std.specs.Int.{to_le_bytes, w64}
use Rattle.constriction_pack.specs.Contents.{IsContent, kind_number}
use Rattle.constriction_pack.specs.Formats.{IsAdmitted, signature}
use Rattle.constriction_pack.specs.declared.format.Format.{Format}
use Rattle.constriction_pack.specs.declared.format.Format.TheVariants.{Cpk2, Cpk3}
use Rattle.constriction_pack.specs.declared.kind.Kind.{Kind}

-- the 64-bit FNV-1a hash after bytes, if it was `hash` before them
abbrev pub hash_after : ℕ → List ℕ → ℕ
hash_after hash [] = hash
hash_after hash (byte ∷ bytes) = hash_after (bit_xor hash byte * 1099511628211 % 2 ^ 64) bytes

-- the hash of no bytes
abbrev pub offset_basis : ℕ
offset_basis = 14695981039346656037

-- the hash before the first frame
abbrev pub first_hash : Format → ℕ
first_hash Cpk2 = offset_basis
first_hash Cpk3 = hash_after offset_basis (signature Cpk3)

-- what tells the kind of a block, and whether it is the last one
abbrev pub tag_of : Kind → Bool → ℕ
tag_of kind is_last = kind_number kind + (if is_last then 128 else 0)

-- the header of a content of n bytes: the tag, the number in three bytes, the lowest first, and the
-- exclusive or of these four
abbrev pub header_of : ℕ → ℕ → List ℕ
header_of tag n = tag ∷ n % 256 ∷ n / 256 % 256 ∷ n / 65536 ∷ bit_xor (bit_xor (bit_xor tag (n % 256)) (n / 256 % 256)) (n / 65536) ∷ []

-- the hash after a header and its content
unfoldable pub hash_after_frame : ℕ → ℕ → List ℕ → ℕ
hash_after_frame before tag content = hash_after before (header_of tag (length content) ++ content)

-- a frame: a header, its content, and the hash of both and of those of all frames before
unfoldable pub frame_of : ℕ → ℕ → List ℕ → List ℕ
frame_of before tag content =
    header_of tag (length content) ++ (content ++ to_le_bytes w64 (hash_after_frame before tag content))

-- the next frame in a format, after frames whose hash is `before`, with the bytes of its block, and
-- the hash after it: none after the last frame
pub record IsFrame (format : Format) (before : ℕ) (block frame : List ℕ)
    (after : Option ℕ) : Type 0 where
  pub kind : Kind
  pub is_last : Bool
  pub content : List ℕ
  pub short : length content ≤ 2 ^ 23
  pub of_kind : IsContent kind block content
  pub admitted : IsAdmitted format kind block content
  pub laid_out : frame ≡ frame_of before (tag_of kind is_last) content
  pub leads : after ≡ (if is_last then None else Some (hash_after_frame before (tag_of kind is_last) content))
