-- Numbers as bits: their length, one text each, and cut ones.
use Rattle.std.proofs.Common.{◌≡◌, ℕ, zero, suc, ◌+◌, ◌-◌, ◌*◌, ◌/◌, ◌^◌, ◌<◌, ◌≤◌, List, ◌++◌, length, refl, sym, ap, ◌∙◌, arith, append-nil, append_assoc, length-append, pow-suc, replicate, mul-le-mul_right, []}
use Rattle.std.proofs.Math.Nat.{pow-le-pow_right}
use Rattle.std.specs.Int.{w32, leading_zeros}
use Rattle.std.proofs.lemmas.List.{length-replicate}
use Rattle.std.proofs.lemmas.Nat.{leading_length, le-div, div_below, pow_pos, pow-add, pow_below}
use Rattle.constriction_stored_weights.specs.Bits.{bits}
use Rattle.constriction_stored_weights.specs.Tables.{bit_length, number_bits}
use Rattle.constriction_stored_weights.specs.private.Entries.{EndsInBits, EndsInNumber}
use Rattle.constriction_stored_weights.proofs.BitsLemmas.{bits-ones, apart, no_bits, same_bits, length-bits}

-- ---- the length of a number

pub length_bounds : (n : ℕ) → n < 2 ^ 32 → (n < 2 ^ bit_length n) × (2 ^ bit_length n ≤ 2 * n + 1)
unfolding bit_length
length_bounds n h =
    let found = leading_length 32 n h in
    let same : 32 - leading_zeros w32 n ≡ found.0 = omega (arith, found.1) in
    rw same (found.2, found.3)

not_longer : (n short long : ℕ) → n < 2 ^ short → 2 ^ long ≤ 2 * n + 1 → short < long → ⊥
not_longer n short long above below h =
    let least : suc short ≤ long = omega arith in
    omega (arith, pow-le-pow_right {n = 2} (omega arith) least, pow-suc 2 short)

only_length : (n a b : ℕ) → n < 2 ^ a → 2 ^ a ≤ 2 * n + 1 → n < 2 ^ b → 2 ^ b ≤ 2 * n + 1 → a ≡ b
only_length n a b a-above a-below b-above b-below =
    let left : a < b → ⊥ = not_longer n a b a-above b-below in
    let right : b < a → ⊥ = not_longer n b a b-above a-below in
    omega (arith, left, right)

-- a number below 2^15 has fewer than 16 bits
pub short : (n : ℕ) → n < 2 ^ 15 → bit_length n < 16
short n h =
    let bounds = length_bounds n (omega arith) in
    let long : 15 < bit_length n → ⊥ = not_longer n 15 (bit_length n) h bounds.1 in
    omega (arith, long)

-- ---- the bits of a number

-- how many bits it has, and those below its highest one
pub bits_of_number : (n : ℕ) → number_bits n ≡ bits 4 (bit_length n) ++ bits (bit_length n - 1) n
unfolding number_bits
bits_of_number n = refl

-- 0 is four bits of 0
pub zero_number : number_bits 0 ≡ bits 4 0
unfolding number_bits
zero_number =
    let bounds = length_bounds 0 (omega arith) in
    let none : bit_length 0 ≡ 0 = only_length 0 (bit_length 0) 0 bounds.0 bounds.1 (omega arith) (omega arith) in
    rw none (ap (λ xs. bits 4 0 ++ xs) (no_bits 0) ∙ append-nil (bits 4 0))

-- a number of so many bits, the highest of which is 1
pub number_of_length : (n count : ℕ) → count < 16 → 0 < count → 2 ^ (count - 1) ≤ n → n < 2 ^ count
    → number_bits n ≡ bits 4 count ++ bits (count - 1) n
unfolding number_bits
number_of_length n count few some least most =
    let fits : count ≤ 15 = omega arith in
    let bounds = length_bounds n (omega (arith, pow-le-pow_right {n = 2} (omega arith) fits)) in
    let twice : 2 ^ count ≤ 2 * n + 1 =
    let more : count ≡ suc (count - 1) = omega arith in omega (arith, ap (λ k. 2 ^ k) more, pow-suc 2 (count - 1)) in
    let same : bit_length n ≡ count = only_length n (bit_length n) count bounds.0 bounds.1 most twice in
    rw same refl

-- ---- one text each

-- the number whose highest bit is its first
top_bit : (n count : ℕ) → 2 ^ count ≤ n → n < 2 ^ suc count → n / 2 ^ count ≡ 1
top_bit n count least most =
    let some : 0 < 2 ^ count = pow_pos count in
    omega (arith, le-div 1 n (2 ^ count) some (omega arith), div_below n (2 ^ count) 2 some (omega (arith, pow-suc 2 count)))

-- numbers of as many bits with the same bits below the highest one are one
same_below : (a b count : ℕ) → a < 2 ^ count → 2 ^ count ≤ 2 * a + 1 → b < 2 ^ count → 2 ^ count ≤ 2 * b + 1
    → bits (count - 1) a ≡ bits (count - 1) b → a ≡ b
same_below a b zero a-above a-below b-above b-below e = omega arith
same_below a b (suc less) a-above a-below b-above b-below e =
    let one : suc less - 1 ≡ less = omega arith in
    let twice = pow-suc 2 less in
    let a-top = top_bit a less (omega (arith, twice)) a-above in
    let b-top = top_bit b less (omega (arith, twice)) b-above in
    same_bits less a b (a-top ∙ sym b-top) (ap (λ k. bits k a) (sym one) ∙ e ∙ ap (λ k. bits k b) one)

-- the length of a number is read before its bits
length_first : (n count : ℕ) (up rest : List ℕ) → n < 2 ^ 15 → count < 16 → bits 4 count ++ up ≡ number_bits n ++ rest
    → (count ≡ bit_length n) × (up ≡ bits (bit_length n - 1) n ++ rest)
length_first n count up rest h few e =
    let both = apart 4 (bits 4 count) (bits 4 (bit_length n)) up (bits (bit_length n - 1) n ++ rest) (length-bits 4 count)
    (length-bits 4 (bit_length n)) (e ∙ ap (λ xs. xs ++ rest) (bits_of_number n) ∙ append_assoc (bits 4 (bit_length n)) _ rest) in
    let length_fits = short n h in
    (same_bits 4 count (bit_length n) (omega arith) both.0, both.1)

-- bits begin with one number at most
pub same_number : (a b : ℕ) (r s : List ℕ) → a < 2 ^ 15 → b < 2 ^ 15 → number_bits a ++ r ≡ number_bits b ++ s → (a ≡ b) × (r ≡ s)
same_number a b r s a-fits b-fits e =
    let count = bit_length a in
    let first = length_first b count (bits (count - 1) a ++ r) s b-fits (short a a-fits)
    (sym (append_assoc (bits 4 count) (bits (count - 1) a) r) ∙ ap (λ xs. xs ++ r) (sym (bits_of_number a)) ∙ e) in
    let tails : bits (count - 1) a ++ r ≡ bits (count - 1) b ++ s = first.1 ∙ ap (λ k. bits (k - 1) b ++ s) (sym first.0) in
    let both = apart (count - 1) (bits (count - 1) a) (bits (count - 1) b) r s (length-bits (count - 1) a) (length-bits (count - 1) b)
    tails in
    let a-bounds = length_bounds a (omega arith) in
    let b-bounds : (b < 2 ^ count) × (2 ^ count ≤ 2 * b + 1) = rw first.0 (length_bounds b (omega arith)) in
    (same_below a b count a-bounds.0 a-bounds.1 b-bounds.0 b-bounds.1 both.0, both.1)

-- ---- cut numbers

-- bits that a number goes on from begin with no number
pub no_number_yet : (given : List ℕ) → EndsInNumber given → (number : ℕ) (rest : List ℕ) → number < 2 ^ 15
    → given ≡ number_bits number ++ rest → ⊥
no_number_yet given cut number rest fits e =
    let goes_on = cut.goes_on in
    let same = same_number number cut.number (rest ++ cut.more) [] fits cut.fits
    (sym (append_assoc (number_bits number) rest cut.more) ∙ ap (λ xs. xs ++ cut.more) (sym e) ∙ cut.bits_are
    ∙ sym (append-nil (number_bits cut.number))) in
    omega (arith, ap length same.1, length-append rest cut.more)

-- a number goes on from bits that end within its length
pub ends_in_length : (given : List ℕ) → EndsInBits 0 4 given → EndsInNumber given
ends_in_length given cut =
    let missing = 4 - cut.taken in
    let few = cut.few in
    let most = cut.most in
    let count = (cut.number + 1) * 2 ^ missing - 1 in
    let four : cut.taken + missing ≡ 4 = omega arith in
    let whole : 2 ^ cut.taken * 2 ^ missing ≡ 16 = sym (pow-add 2 cut.taken missing) ∙ ap (λ k. 2 ^ k) four in
    let one_missing : 1 ≤ missing = omega arith in
    let some : 2 ≤ 2 ^ missing = pow-le-pow_right {n = 2} (omega arith) one_missing in
    let low : 1 * 2 ^ missing ≤ (cut.number + 1) * 2 ^ missing = mul-le-mul_right (2 ^ missing) (omega arith) in
    let high : (cut.number + 1) * 2 ^ missing ≤ 2 ^ cut.taken * 2 ^ missing = mul-le-mul_right (2 ^ missing) (omega arith) in
    let count_some : 0 < count = omega arith in
    let count_few : count < 16 = omega arith in
    let number = 2 ^ (count - 1) in
    let one_less : count - 1 < count = omega arith in
    let length_is : bits 4 count ≡ given ++ replicate missing 1 =
    ap (λ k. bits k count) (sym four) ∙ bits-ones cut.taken cut.number missing ∙ ap (λ xs. xs ++ replicate missing 1) (sym cut.bits_are) in
    record {
      number = number;
      more = replicate missing 1 ++ bits (count - 1) number;
      some = pow_pos (count - 1);
      fits = let below : count - 1 < 15 = omega arith in pow_below (count - 1) 15 below;
      goes_on = omega (arith, length-append (replicate missing 1) (bits (count - 1) number), length-replicate {A = ℕ} missing 1);
      bits_are =
          sym (append_assoc given (replicate missing 1) (bits (count - 1) number))
          ∙ ap (λ xs. xs ++ bits (count - 1) number) (sym length_is)
          ∙ sym (number_of_length number count count_few count_some (omega arith) (pow_below (count - 1) count one_less));
    }

-- a number goes on from its length and bits that end within it
pub ends_in_bits : (count : ℕ) (given rest : List ℕ) → count < 16 → given ≡ bits 4 count ++ rest → EndsInBits 1 (count - 1) rest
    → EndsInNumber given
ends_in_bits count given rest few e cut =
    let missing = count - 1 - cut.taken in
    let cut_few = cut.few in
    let least = cut.least in
    let most = cut.most in
    let number = (cut.number + 1) * 2 ^ missing - 1 in
    let all : cut.taken + missing ≡ count - 1 = omega arith in
    let whole : 2 ^ cut.taken * 2 ^ missing ≡ 2 ^ (count - 1) = sym (pow-add 2 cut.taken missing) ∙ ap (λ k. 2 ^ k) all in
    let more : count ≡ suc (count - 1) = omega arith in
    let twice : 2 ^ count ≡ 2 ^ (count - 1) * 2 = ap (λ k. 2 ^ k) more ∙ pow-suc 2 (count - 1) in
    let some : 0 < 2 ^ missing = pow_pos missing in
    let low : (2 ^ cut.taken + 1) * 2 ^ missing ≤ (cut.number + 1) * 2 ^ missing = mul-le-mul_right (2 ^ missing) (omega arith) in
    let high : (cut.number + 1) * 2 ^ missing ≤ (2 * 2 ^ cut.taken) * 2 ^ missing = mul-le-mul_right (2 ^ missing) (omega arith) in
    let above : 2 ^ (count - 1) ≤ number = omega arith in
    let below : number < 2 ^ count = omega arith in
    let top : 0 < 2 ^ (count - 1) = pow_pos (count - 1) in
    let number_is = number_of_length number count few (omega arith) above below in
    record {
      number = number;
      more = replicate missing 1;
      some = omega arith;
      fits = let few_bits : count ≤ 15 = omega arith in omega (arith, pow-le-pow_right {n = 2} (omega arith) few_bits);
      goes_on = omega (arith, length-replicate {A = ℕ} missing 1);
      bits_are =
          ap (λ xs. xs ++ replicate missing 1) (e ∙ ap (λ xs. bits 4 count ++ xs) cut.bits_are)
          ∙ append_assoc (bits 4 count) (bits cut.taken cut.number) (replicate missing 1)
          ∙ ap (λ xs. bits 4 count ++ xs) (sym (bits-ones cut.taken cut.number missing))
          ∙ ap (λ k. bits 4 count ++ bits k number) all ∙ sym number_is;
    }
