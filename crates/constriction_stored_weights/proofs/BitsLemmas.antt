-- Bits of numbers and bytes: at either end, apart, and as zeros.
use Rattle.std.proofs.Common.{◌-◌, ◌≡◌, ℕ, zero, suc, ◌+◌, ◌*◌, ◌/◌, ◌%◌, ◌^◌, ◌<◌, List, [], ◌∷◌, ◌++◌, length, replicate, drop, take, refl, sym, ap, ◌∙◌, arith, append-nil, append_assoc, length-append, add-one, add-zero, zero-add, pow-suc, mul-le-mul_right, ◌≤◌}
use Rattle.std.specs.List.{All}
use Rattle.std.proofs.lemmas.List.{take_at, drop_at, replicate_more, same_from_push, length_push}
use Rattle.std.proofs.lemmas.List.Elements.{All-head, All-tail}
use Rattle.std.proofs.lemmas.List.Concat.{flat_map-append}
use Rattle.std.proofs.lemmas.Nat.{shr-shr, shl-shr, shr_split, pow_pos}
use Rattle.constriction_stored_weights.specs.Bits.{bits, bits_of_bytes}
use Rattle.constriction_stored_weights.specs.private.Places.{Extends}

-- ---- lists

-- lists of one length, and what follows each
pub apart : (n : ℕ) (xs ys r s : List ℕ) → length xs ≡ n → length ys ≡ n → xs ++ r ≡ ys ++ s → (xs ≡ ys) × (r ≡ s)
apart n xs ys r s hx hy e = (
  sym (take_at xs r n hx) ∙ ap (take n) e ∙ take_at ys s n hy,
  sym (drop_at xs r n hx) ∙ ap (drop n) e ∙ drop_at ys s n hy,
)

-- a list to which two were added, one after another
pub added_twice : (old mid new xs ys zs : List ℕ) → mid ≡ old ++ xs → new ≡ mid ++ ys → zs ≡ xs ++ ys → new ≡ old ++ zs
added_twice old mid new xs ys zs first then both = then ∙ ap (λ s. s ++ ys) first ∙ append_assoc old xs ys ∙ ap (λ s. old ++ s) (sym both)

-- bytes to which others were added twice
pub extends_more : (xs ys zs : List ℕ) → Extends xs ys → Extends ys zs → Extends xs zs
extends_more xs ys zs h k = (h.0 ++ k.0, k.1 ∙ ap (λ s. s ++ k.0) h.1 ∙ append_assoc xs h.0 k.0)

-- ---- bits of a number

-- the lowest 0 bits of a number
pub no_bits : (n : ℕ) → bits 0 n ≡ []
unfolding bits
no_bits n = refl

pub bits-suc : (count n : ℕ) → bits (suc count) n ≡ bits count (n / 2) ++ n % 2 ∷ []
unfolding bits
bits-suc count n = refl

-- how many bits these are
pub length-bits : (count n : ℕ) → length (bits count n) ≡ count
length-bits zero n = ap length (no_bits n)
length-bits (suc count) n =
    ap length (bits-suc count n) ∙ length_push (bits count (n / 2)) (n % 2) ∙ ap (λ k. k + 1) (length-bits count (n / 2)) ∙ omega arith

-- one more bit below a number
pub bits-more : (count n b : ℕ) → b < 2 → bits (count + 1) (2 * n + b) ≡ bits count n ++ b ∷ []
bits-more count n b h =
    let half : (2 * n + b) / 2 ≡ n = omega arith in
    let low : (2 * n + b) % 2 ≡ b = omega arith in
    let one : count + 1 ≡ suc count = omega arith in
    ap (λ k. bits k (2 * n + b)) one ∙ bits-suc count (2 * n + b) ∙ ap (λ k. bits count k ++ (2 * n + b) % 2 ∷ []) half
    ∙ ap (λ k. bits count n ++ k ∷ []) low

-- the highest bit, and the others
pub bits-first : (count n : ℕ) → bits (suc count) n ≡ n / 2 ^ count % 2 ∷ bits count n
bits-first zero n =
    let same : n / 2 ^ 0 ≡ n = omega arith in
    bits-suc 0 n ∙ ap (λ xs. xs ++ n % 2 ∷ []) (no_bits (n / 2)) ∙ ap (λ k. k % 2 ∷ []) (sym same)
    ∙ ap (λ xs. n / 2 ^ 0 % 2 ∷ xs) (sym (no_bits n))
bits-first (suc count) n =
    let shifted : n / 2 / 2 ^ count ≡ n / 2 ^ suc count = shr-shr n 1 count ∙ ap (λ k. n / 2 ^ k) (omega arith) in
    bits-suc (suc count) n ∙ ap (λ xs. xs ++ n % 2 ∷ []) (bits-first count (n / 2))
    ∙ ap (λ k. k % 2 ∷ (bits count (n / 2) ++ n % 2 ∷ [])) shifted ∙ ap (λ xs. n / 2 ^ suc count % 2 ∷ xs) (sym (bits-suc count n))

-- the bits from a place on, one further down
pub bits-down : (count n at : ℕ) → bits (count + 1) (n / 2 ^ at) ≡ bits count (n / 2 ^ (at + 1)) ++ n / 2 ^ at % 2 ∷ []
bits-down count n at =
    let one : count + 1 ≡ suc count = omega arith in
    ap (λ k. bits k (n / 2 ^ at)) one ∙ bits-suc count (n / 2 ^ at) ∙ ap (λ k. bits count k ++ n / 2 ^ at % 2 ∷ []) (shr-shr n at 1)

-- numbers with the same bits and the same rest above them are one
pub same_bits : (count a b : ℕ) → a / 2 ^ count ≡ b / 2 ^ count → bits count a ≡ bits count b → a ≡ b
same_bits zero a b above e = omega arith
same_bits (suc count) a b above e =
    let ends = same_from_push (bits count (a / 2)) (bits count (b / 2)) (a % 2) (b % 2) (sym (bits-suc count a) ∙ e ∙ bits-suc count b) in
    let one : 1 + count ≡ suc count = omega arith in
    let halves : a / 2 ≡ b / 2 = same_bits count (a / 2) (b / 2)
    (shr-shr a 1 count ∙ ap (λ k. a / 2 ^ k) one ∙ above ∙ sym (ap (λ k. b / 2 ^ k) one) ∙ sym (shr-shr b 1 count)) ends.0 in
    omega (arith, ends.1, halves)

-- bits of zeros below a number
pub bits-shifted : (count n zeros : ℕ) → bits (count + zeros) (n * 2 ^ zeros) ≡ bits count n ++ replicate zeros 0
bits-shifted count n zero =
    let same : n * 2 ^ 0 ≡ n = omega arith in
    ap (λ k. bits k (n * 2 ^ 0)) (add-zero count) ∙ ap (bits count) same ∙ sym (append-nil (bits count n))
bits-shifted count n (suc zeros) =
    let twice : n * 2 ^ suc zeros ≡ 2 * (n * 2 ^ zeros) + 0 = ap (λ k. n * k) (pow-suc 2 zeros) ∙ omega arith in
    let one : count + suc zeros ≡ count + zeros + 1 = omega arith in
    ap (λ k. bits k (n * 2 ^ suc zeros)) one ∙ ap (bits (count + zeros + 1)) twice
    ∙ bits-more (count + zeros) (n * 2 ^ zeros) 0 (omega arith)
    ∙ ap (λ xs. xs ++ 0 ∷ []) (bits-shifted count n zeros) ∙ append_assoc (bits count n) (replicate zeros 0) (0 ∷ [])
    ∙ ap (λ xs. bits count n ++ xs) (replicate_more zeros 0 ∙ ap (λ k. replicate k 0) (add-one zeros))

-- bits of ones below a number
pub bits-ones : (count n ones : ℕ) → bits (count + ones) ((n + 1) * 2 ^ ones - 1) ≡ bits count n ++ replicate ones 1
bits-ones count n zero =
    let same : (n + 1) * 2 ^ 0 - 1 ≡ n = omega arith in
    ap (λ k. bits k ((n + 1) * 2 ^ 0 - 1)) (add-zero count) ∙ ap (bits count) same ∙ sym (append-nil (bits count n))
bits-ones count n (suc ones) =
    let some : 0 < 2 ^ ones = pow_pos ones in
    let least : 1 * 2 ^ ones ≤ (n + 1) * 2 ^ ones = mul-le-mul_right (2 ^ ones) (omega arith) in
    let twice : (n + 1) * 2 ^ suc ones - 1 ≡ 2 * ((n + 1) * 2 ^ ones - 1) + 1 = omega (arith, ap (λ k. (n + 1) * k) (pow-suc 2 ones)) in
    let one : count + suc ones ≡ count + ones + 1 = omega arith in
    ap (λ k. bits k ((n + 1) * 2 ^ suc ones - 1)) one ∙ ap (bits (count + ones + 1)) twice
    ∙ bits-more (count + ones) ((n + 1) * 2 ^ ones - 1) 1 (omega arith) ∙ ap (λ xs. xs ++ 1 ∷ []) (bits-ones count n ones)
    ∙ append_assoc (bits count n) (replicate ones 1) (1 ∷ [])
    ∙ ap (λ xs. bits count n ++ xs) (replicate_more ones 1 ∙ ap (λ k. replicate k 1) (add-one ones))

-- the lowest bits are zeros if nothing is left when they are taken off
pub zero_bits : (count n : ℕ) → n % 2 ^ count ≡ 0 → bits count n ≡ replicate count 0
zero_bits count n h =
    let whole : n ≡ n / 2 ^ count * 2 ^ count = omega (arith, shr_split n count) in
    ap (bits count) whole ∙ ap (λ k. bits k (n / 2 ^ count * 2 ^ count)) (sym (zero-add count)) ∙ bits-shifted 0 (n / 2 ^ count) count
    ∙ ap (λ xs. xs ++ replicate count 0) (no_bits (n / 2 ^ count))

-- and nothing is left then
pub none_left : (count n : ℕ) → bits count n ≡ replicate count 0 → n % 2 ^ count ≡ 0
none_left count n e =
    let whole = n / 2 ^ count * 2 ^ count in
    let zeros : bits count whole ≡ replicate count 0 = ap (λ k. bits k whole) (sym (zero-add count)) ∙ bits-shifted 0 (n / 2 ^ count) count
    ∙ ap (λ xs. xs ++ replicate count 0) (no_bits (n / 2 ^ count)) in
    let same : n ≡ whole = same_bits count n whole (sym (shl-shr (n / 2 ^ count) count)) (e ∙ sym zeros) in
    omega (arith, shr_split n count, same)

-- ---- bits of bytes

-- the bits of bytes and of others after them
pub bits_of_bytes-append : (xs ys : List ℕ) → bits_of_bytes (xs ++ ys) ≡ bits_of_bytes xs ++ bits_of_bytes ys
bits_of_bytes-append xs ys = flat_map-append (bits 8) xs ys

-- the bits of one byte more
pub bits_of_bytes-push : (xs : List ℕ) (x : ℕ) → bits_of_bytes (xs ++ x ∷ []) ≡ bits_of_bytes xs ++ bits 8 x
bits_of_bytes-push xs x = bits_of_bytes-append xs (x ∷ []) ∙ ap (λ ys. bits_of_bytes xs ++ ys) (append-nil (bits 8 x))

-- a byte has eight bits
pub length-bits_of_bytes : (xs : List ℕ) → length (bits_of_bytes xs) ≡ 8 * length xs
length-bits_of_bytes [] = refl
length-bits_of_bytes (x ∷ xs) = omega (arith, length-append (bits 8 x) (bits_of_bytes xs), length-bits 8 x, length-bits_of_bytes xs)

-- bytes with the same bits are the same
pub same_bytes : (xs ys : List ℕ) → All (λ x. x < 256) xs → All (λ x. x < 256) ys → bits_of_bytes xs ≡ bits_of_bytes ys → xs ≡ ys
same_bytes [] [] fit fit' e = refl
same_bytes [] (y ∷ ys) fit fit' e = absurd (omega (arith, ap length e, length-append (bits 8 y) (bits_of_bytes ys), length-bits 8 y))
same_bytes (x ∷ xs) [] fit fit' e = absurd (omega (arith, ap length e, length-append (bits 8 x) (bits_of_bytes xs), length-bits 8 x))
same_bytes (x ∷ xs) (y ∷ ys) fit fit' e =
    let both = apart 8 (bits 8 x) (bits 8 y) (bits_of_bytes xs) (bits_of_bytes ys) (length-bits 8 x) (length-bits 8 y) e in
    let x-fits : x < 256 = All-head (λ b. b < 256) x xs fit in
    let y-fits : y < 256 = All-head (λ b. b < 256) y ys fit' in
    let first : x ≡ y = same_bits 8 x y (omega arith) both.0 in
    ap (λ k. k ∷ xs) first
    ∙ ap (λ k. y ∷ k) (same_bytes xs ys (All-tail (λ b. b < 256) x xs fit) (All-tail (λ b. b < 256) y ys fit') both.1)
