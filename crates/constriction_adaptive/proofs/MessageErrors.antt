-- Why a message did not come back: it has the error of the encoder, or that of the decoder.
use Rattle.std.proofs.Common.{◌≡◌, Err}
use Rattle.std.specs.Prelude.{Result}
use Rattle.constriction_coders.specs.declared.laws.MessageError.{MessageError}
use Rattle.constriction_coders.specs.declared.laws.MessageError.TheVariants.{Encoding, Decoding}

module _ {A E D : Type 0} (r : Result A (MessageError E D)) where
  -- not both
  pub not-decoding : (encoding : E) (decoding : D) → r ≡ Err (Encoding encoding) → r ≡ Err (Decoding decoding) → ⊥
  not-decoding encoding decoding is other = cc

  -- the encoder has one
  pub of-encoding : (error other : E) → r ≡ Err (Encoding error) → r ≡ Err (Encoding other) → error ≡ other
  of-encoding error other is also = cc

  -- and so has the decoder
  pub of-decoding : (error other : D) → r ≡ Err (Decoding error) → r ≡ Err (Decoding other) → error ≡ other
  of-decoding error other is also = cc
