-- Places in bytes that are read and written bit by bit.
use Rattle.std.specs.Prelude.{◌≡◌, ℕ, List, ◌++◌, drop}
use Rattle.constriction_stored_weights.specs.Bits.{bits, bits_of_bytes}
use Rattle.constriction_stored_weights.specs.declared.places.ReadPlace.{ReadPlace}
use Rattle.constriction_stored_weights.specs.declared.places.WritePlace.{WritePlace}

-- the bits of bytes from a place on
abbrev pub upcoming : List ℕ → ReadPlace → List ℕ
upcoming bytes place = bits place.left place.byte ++ bits_of_bytes (drop place.next bytes)

-- the bits of bytes and those after them
abbrev pub held : List ℕ → WritePlace → List ℕ
held bytes place = bits_of_bytes bytes ++ bits place.filled place.byte

-- bytes to which others were added
abbrev pub Extends : List ℕ → List ℕ → Type 0
Extends bytes longer = (more : List ℕ) × (longer ≡ bytes ++ more)
