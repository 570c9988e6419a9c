-- FNV-1a tells two lists apart that differ in one byte.
use Rattle.std.proofs.Common.{◌≡◌, ℕ, ◌*◌, ◌%◌, ◌^◌, ◌<◌, List, [], ◌∷◌, ◌++◌, refl, ap, sym, ◌∙◌}
use Rattle.std.proofs.Common.{arith, lit<}
use Rattle.std.specs.Prelude.{bit_xor}
use Rattle.std.specs.Int.{from_le_bytes, to_le_bytes, w64}
use Rattle.std.specs.Int.Bits.{xor_assoc, xor_self, xor_zero_l}
use Rattle.std.proofs.Math.Nat.{mul_assoc, mul-one}
use Rattle.std.proofs.lemmas.Nat.{from_le_bytes-to_le_bytes_8, mod_below, mul-mod_first}
use Rattle.std.proofs.lemmas.Nat.{mul-mod_second, xor_comm, xor_mod}
use Rattle.constriction_pack.specs.Frames.{hash_after}

abbrev prime : ℕ
prime = 1099511628211

-- the number that turns a product with the prime back, modulo 2 ^ 64
abbrev inverse : ℕ
inverse = 14886173955864302971

-- the exclusive or with the same number on the left tells numbers apart
pub xor_left : (a b c : ℕ) → bit_xor a b ≡ bit_xor a c → b ≡ c
xor_left a b c e =
    sym (xor_zero_l b) ∙ ap (λ z. bit_xor z b) (sym (xor_self a)) ∙ xor_assoc a a b
    ∙ ap (bit_xor a) e
    ∙ sym (xor_assoc a a c) ∙ ap (λ z. bit_xor z c) (xor_self a) ∙ xor_zero_l c

-- so does that with the same number on the right
pub xor_right : (a b c : ℕ) → bit_xor a c ≡ bit_xor b c → a ≡ b
xor_right a b c e = xor_left c a b (xor_comm c a ∙ e ∙ xor_comm b c)

product_back : (x : ℕ) → x * prime % 2 ^ 64 * inverse % 2 ^ 64 ≡ x % 2 ^ 64
product_back x =
    mul-mod_first (x * prime) inverse (2 ^ 64) ∙ ap (λ n. n % 2 ^ 64) (mul_assoc x prime inverse)
    ∙ sym (mul-mod_second x (prime * inverse) (2 ^ 64)) ∙ ap (λ n. n % 2 ^ 64) (mul-one x)

-- a step of the hash tells what the exclusive or was
step_once : (m n : ℕ) → m * prime % 2 ^ 64 ≡ n * prime % 2 ^ 64 → m % 2 ^ 64 ≡ n % 2 ^ 64
step_once m n e = sym (product_back m) ∙ ap (λ x. x * inverse % 2 ^ 64) e ∙ product_back n

below : (n : ℕ) → n % 2 ^ 64 < 2 ^ 64
below n = mod_below n (2 ^ 64) (lit< tt)

-- the hash before bytes is told by the hash after them
pub hash_before : (bytes : List ℕ) (h k : ℕ) → h < 2 ^ 64 → k < 2 ^ 64
    → hash_after h bytes ≡ hash_after k bytes → h ≡ k
hash_before [] h k p q e = e
hash_before (b ∷ bytes) h k p q e =
    let next = hash_before bytes _ _ (below (bit_xor h b * prime)) (below (bit_xor k b * prime))
    e in
    let same = sym (xor_mod h b 64) ∙ step_once (bit_xor h b) (bit_xor k b) next ∙ xor_mod k b 64 in
    let rests : h % 2 ^ 64 ≡ k % 2 ^ 64 = xor_right (h % 2 ^ 64) (k % 2 ^ 64) (b % 2 ^ 64) same in
    omega (arith, rests, p, q)

-- one byte is told by the hash, if the others are known
pub byte_once : (h x y : ℕ) (after : List ℕ) → x < 256 → y < 256
    → hash_after h (x ∷ after) ≡ hash_after h (y ∷ after) → x ≡ y
byte_once h x y after p q e =
    let next = hash_before after _ _ (below (bit_xor h x * prime)) (below (bit_xor h y * prime))
    e in
    let same = sym (xor_mod h x 64) ∙ step_once (bit_xor h x) (bit_xor h y) next ∙ xor_mod h y 64 in
    let rests : x % 2 ^ 64 ≡ y % 2 ^ 64 = xor_left (h % 2 ^ 64) (x % 2 ^ 64) (y % 2 ^ 64) same in
    omega (arith, rests, p, q)

-- the hash of two lists is that of the second one after the first
pub hash_after-append : (h : ℕ) (xs ys : List ℕ)
    → hash_after h (xs ++ ys) ≡ hash_after (hash_after h xs) ys
hash_after-append h [] ys = refl
hash_after-append h (x ∷ xs) ys = hash_after-append (bit_xor h x * prime % 2 ^ 64) xs ys

hash_below : (bytes : List ℕ) (h : ℕ) → h < 2 ^ 64 → hash_after h bytes < 2 ^ 64
hash_below [] h p = p
hash_below (b ∷ bytes) h p = hash_below bytes _ (below (bit_xor h b * prime))

-- the hash of at least one byte has at most 64 bits
pub hash_of_more : (h byte : ℕ) (bytes : List ℕ) → hash_after h (byte ∷ bytes) < 2 ^ 64
hash_of_more h byte bytes = hash_below bytes _ (below (bit_xor h byte * prime))

-- a checksum is that of one hash
pub checksum_once : (m n : ℕ) → m < 2 ^ 64 → n < 2 ^ 64 → to_le_bytes w64 m ≡ to_le_bytes w64 n
    → m ≡ n
checksum_once m n p q e =
    sym (from_le_bytes-to_le_bytes_8 m p) ∙ ap (from_le_bytes w64) e
    ∙ from_le_bytes-to_le_bytes_8 n q
