-- Bytes as a packed file.
use Rattle.std.specs.Prelude.{◌≡◌, ℕ, List, [], ◌++◌, Option, None, Some}
use Rattle.constriction_pack.specs.Formats.{signature}
use Rattle.constriction_pack.specs.Frames.{first_hash, IsFrame}
use Rattle.constriction_pack.specs.declared.format.Format.{Format}

-- the frames in a format from a hash on, and the bytes that their blocks make up; there is no hash
-- after the last frame, and nothing follows it
pub data AreFrames (format : Format) : Option ℕ → List ℕ → List ℕ → Type 0 where
  ended : AreFrames format None [] []
  next : {before : ℕ} {bytes frames : List ℕ} {after : Option ℕ} (block frame : List ℕ)
      → IsFrame format before block frame after → AreFrames format after bytes frames
      → AreFrames format (Some before) (block ++ bytes) (frame ++ frames)

-- a packed file of these bytes: the signature of its format, and then the frames from the first to
-- the last
pub record IsPacked (bytes packed : List ℕ) : Type 0 where
  pub format : Format
  pub frames : List ℕ
  pub framed : AreFrames format (Some (first_hash format)) bytes frames
  pub laid_out : packed ≡ signature format ++ frames
