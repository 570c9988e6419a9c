-- Formats: their signatures and first hashes tell them apart.
use Rattle.std.proofs.Common.{◌≡◌, ℕ, ◌^◌, ◌<◌, List, ◌++◌, length, get_or, refl, ap, arith, lit<}
use Rattle.std.proofs.lemmas.List.{append_cancel_left}
use Rattle.constriction_pack.specs.Formats.{signature}
use Rattle.constriction_pack.specs.Frames.{first_hash}
use Rattle.constriction_pack.specs.declared.format.Format.{Format}
use Rattle.constriction_pack.specs.declared.format.Format.TheVariants.{Cpk2, Cpk3}

-- signatures have one length
pub length_signature : (format : Format) → length (signature format) ≡ 8
length_signature Cpk2 = refl
length_signature Cpk3 = refl

-- what begins with a signature has one format
pub signature_once : (f g : Format) (xs ys : List ℕ) → signature f ++ xs ≡ signature g ++ ys
    → (f ≡ g) × (xs ≡ ys)
signature_once Cpk2 Cpk2 xs ys e = (refl, append_cancel_left (signature Cpk2) xs ys e)
signature_once Cpk3 Cpk3 xs ys e = (refl, append_cancel_left (signature Cpk3) xs ys e)
signature_once Cpk2 Cpk3 xs ys e = absurd (omega (arith, ap (λ zs. get_or zs 3 0) e))
signature_once Cpk3 Cpk2 xs ys e = absurd (omega (arith, ap (λ zs. get_or zs 3 0) e))

-- first hashes have at most 64 bits
pub first_hash_small : (format : Format) → first_hash format < 2 ^ 64
first_hash_small Cpk2 = lit< tt
first_hash_small Cpk3 = lit< tt

-- a format has a first hash of its own
pub first_hash_once : (f g : Format) → first_hash f ≡ first_hash g → f ≡ g
first_hash_once Cpk2 Cpk2 e = refl
first_hash_once Cpk3 Cpk3 e = refl
first_hash_once Cpk2 Cpk3 e = absurd (omega (arith, e))
first_hash_once Cpk3 Cpk2 e = absurd (omega (arith, e))
