-- The bits of numbers.
use Rattle.std.proofs.Common.{◌≡◌, ℕ, suc, zero, ◌+◌, ◌-◌, ◌*◌, ◌/◌, ◌%◌, ◌^◌, ◌<◌, ◌≤◌, Bool, true, false, List, [], ◌∷◌, ◌++◌, length, map, take, drop, get_or, refl, ap, subst, sym, ◌∙◌, arith, nat_eq}
use Rattle.std.specs.Prelude.{All}
use Rattle.std.proofs.lemmas.List.{append_assoc, length-append, append-nil, get_or-map, length-map, map-append, take_at, take_more, drop_at}
use Rattle.std.proofs.lemmas.List.Elements.{All-from_get_or, All-head, All-map, All-push, All-tail}
use Rattle.std.proofs.Math.Nat.{div-eq_of_lt}
use Rattle.std.proofs.lemmas.Nat.{shr-shr}
use Rattle.constriction_adaptive.specs.Bit.{bit_number}
use Rattle.constriction_adaptive.specs.Numbers.{bits_of, all_bits}

-- a bit is 0 or 1
pub bit-small : (b : Bool) → bit_number b < 2
bit-small false = omega arith
bit-small true = omega arith

bit-back : (b : Bool) (m : ℕ) → m ≡ bit_number b → nat_eq m 1 ≡ b
bit-back false m is = ap (λ n. nat_eq n 1) is
bit-back true m is = ap (λ n. nat_eq n 1) is

number-bit : (m : ℕ) → m < 2 → bit_number (nat_eq m 1) ≡ m
number-bit zero less = refl
number-bit (suc zero) less = refl
number-bit (suc (suc m)) less = absurd (omega (arith, less))

bit-once : (m n : ℕ) → m < 2 → n < 2 → nat_eq m 1 ≡ nat_eq n 1 → m ≡ n
bit-once m n p q same = sym (number-bit m p) ∙ ap bit_number same ∙ number-bit n q

-- ---- one number

-- no bits
pub no-bits : (n : ℕ) → bits_of 0 n ≡ []
unfolding bits_of
no-bits n = refl

-- the highest bit, and the others
pub bits-first : (width n : ℕ) → bits_of (suc width) n ≡ nat_eq (n / 2 ^ width % 2) 1 ∷ bits_of width n
unfolding bits_of
bits-first width n = refl

-- a number has as many bits as its width
pub bits-length : (width n : ℕ) → length (bits_of width n) ≡ width
bits-length zero n = ap length (no-bits n)
bits-length (suc width) n = omega (arith, ap length (bits-first width n), bits-length width n)

-- the bits after so many: the next one, and the others
pub bits-from : (width done n : ℕ) → done < width
    → bits_of (width - done) n ≡ nat_eq (n / 2 ^ (width - 1 - done) % 2) 1 ∷ bits_of (width - (done + 1)) n
bits-from width done n less =
    let one : width - done ≡ suc (width - 1 - done) = omega (arith, less) in
    let same : width - 1 - done ≡ width - (done + 1) = omega arith in
    ap (λ k. bits_of k n) one ∙ bits-first (width - 1 - done) n
    ∙ ap (λ k. nat_eq (n / 2 ^ (width - 1 - done) % 2) 1 ∷ bits_of k n) same

-- after as many bits as the width none is left
pub all-done : (n width done : ℕ) (front : List Bool) → bits_of width n ≡ front ++ bits_of (width - done) n → width ≤ done
    → bits_of width n ≡ front
all-done n width done front split ended =
    let none : width - done ≡ 0 = omega (arith, ended) in
    split ∙ ap (λ k. front ++ bits_of k n) none ∙ ap (λ bs. front ++ bs) (no-bits n) ∙ append-nil front

-- one bit more below a number
pub bits-push : (width n : ℕ) (b : Bool) → bits_of (suc width) (2 * n + bit_number b) ≡ bits_of width n ++ b ∷ []
bits-push zero n b =
    let m : ℕ = 2 * n + bit_number b in
    let low : m / 2 ^ 0 % 2 ≡ bit_number b = omega (arith, bit-small b) in
    bits-first 0 m ∙ ap (λ c. c ∷ bits_of 0 m) (bit-back b (m / 2 ^ 0 % 2) low) ∙ ap (λ bs. b ∷ bs) (no-bits m)
    ∙ sym (ap (λ bs. bs ++ b ∷ []) (no-bits n))
bits-push (suc width) n b =
    let m : ℕ = 2 * n + bit_number b in
    let half : m / 2 ≡ n = omega (arith, bit-small b) in
    let shifted : m / 2 ^ suc width ≡ n / 2 ^ width =
    sym (shr-shr m 1 width ∙ ap (λ k. m / 2 ^ k) (omega arith)) ∙ ap (λ k. k / 2 ^ width) half in
    bits-first (suc width) m ∙ ap (λ k. nat_eq (k % 2) 1 ∷ bits_of (suc width) m) shifted
    ∙ ap (λ bs. nat_eq (n / 2 ^ width % 2) 1 ∷ bs) (bits-push width n b) ∙ sym (ap (λ bs. bs ++ b ∷ []) (bits-first width n))

-- numbers with the same bits and the same rest above them are one
bits-once : (width a b : ℕ) → a / 2 ^ width ≡ b / 2 ^ width → bits_of width a ≡ bits_of width b → a ≡ b
bits-once zero a b above same = omega arith
bits-once (suc width) a b above same =
    let both = sym (bits-first width a) ∙ same ∙ bits-first width b in
    let high : a / 2 ^ width % 2 ≡ b / 2 ^ width % 2 =
    bit-once (a / 2 ^ width % 2) (b / 2 ^ width % 2) (omega arith) (omega arith) (ap (λ bs. get_or bs 0 false) both) in
    let one : width + 1 ≡ suc width = omega arith in
    let halves : a / 2 ^ width / 2 ≡ b / 2 ^ width / 2 =
    shr-shr a width 1 ∙ ap (λ k. a / 2 ^ k) one ∙ above ∙ sym (shr-shr b width 1 ∙ ap (λ k. b / 2 ^ k) one) in
    bits-once width a b (omega (arith, high, halves)) (ap (drop 1) both)

-- ---- numbers of one width

module _ (width : ℕ) where
  -- the bits of numbers after others
  pub all-bits-append : (xs ys : List ℕ) → all_bits width (xs ++ ys) ≡ all_bits width xs ++ all_bits width ys
  all-bits-append [] ys = refl
  all-bits-append (x ∷ xs) ys =
      ap (λ (bs : List Bool). bits_of width x ++ bs) (all-bits-append xs ys)
      ∙ sym (append_assoc (bits_of width x) (all_bits width xs) (all_bits width ys))

  -- the bits of one number more
  pub all-bits-push : (xs : List ℕ) (x : ℕ) → all_bits width (xs ++ x ∷ []) ≡ all_bits width xs ++ bits_of width x
  all-bits-push xs x =
      all-bits-append xs (x ∷ []) ∙ ap (λ (bs : List Bool). all_bits width xs ++ bs) (append-nil (bits_of width x))

  module _ {Word : Type 0} (number : Word → ℕ) (xs : List Word) (i : ℕ) (x : Word) (less : i < length xs) (is : x ≡ get_or xs i x) where
    one-more : map number (take (i + 1) xs) ≡ map number (take i xs) ++ number x ∷ []
    one-more =
        ap (map number) (take_more xs i x less ∙ ap (λ y. take i xs ++ y ∷ []) (sym is)) ∙ map-append number (take i xs) (x ∷ [])

    -- the bits of the numbers of one word more
    pub all-bits-take : all_bits width (map number (take (i + 1) xs)) ≡ all_bits width (map number (take i xs)) ++ bits_of width (number x)
    all-bits-take = ap (all_bits width) one-more ∙ all-bits-push (map number (take i xs)) (number x)

    -- they fit if it does
    pub small-take : All (λ n. n < 2 ^ width) (map number (take i xs)) → number x < 2 ^ width
        → All (λ n. n < 2 ^ width) (map number (take (i + 1) xs))
    small-take small fits =
        subst (λ (ns : List ℕ). All (λ n. n < 2 ^ width) ns) (sym one-more)
        (All-push (λ n. n < 2 ^ width) (map number (take i xs)) (number x) small fits)

    -- if all fit, it does
    pub small-at : All (λ n. n < 2 ^ width) (map number xs) → number x < 2 ^ width
    small-at small =
        subst (λ m. m < 2 ^ width) (get_or-map number xs i x (number x) less ∙ ap number (sym is))
        (small i (number x) (omega (arith, less, length-map xs number)))

  -- numbers have as many bits each as their width
  pub all-bits-length : (xs : List ℕ) → length (all_bits width xs) ≡ width * length xs
  all-bits-length [] = omega arith
  all-bits-length (x ∷ xs) = omega (arith, length-append (bits_of width x) (all_bits width xs), bits-length width x, all-bits-length xs)

  -- bits are those of one list of numbers
  pub numbers-once : (xs ys : List ℕ) → All (λ n. n < 2 ^ width) xs → All (λ n. n < 2 ^ width) ys → length xs ≡ length ys
      → all_bits width xs ≡ all_bits width ys → xs ≡ ys
  numbers-once [] [] p q long same = refl
  numbers-once [] (y ∷ ys) p q long same = absurd (omega (arith, long))
  numbers-once (x ∷ xs) [] p q long same = absurd (omega (arith, long))
  numbers-once (x ∷ xs) (y ∷ ys) p q long same =
      let bits : bits_of width x ≡ bits_of width y =
      sym (take_at (bits_of width x) (all_bits width xs) width (bits-length width x)) ∙ ap (take width) same
      ∙ take_at (bits_of width y) (all_bits width ys) width (bits-length width y) in
      let others : all_bits width xs ≡ all_bits width ys =
      sym (drop_at (bits_of width x) (all_bits width xs) width (bits-length width x)) ∙ ap (drop width) same
      ∙ drop_at (bits_of width y) (all_bits width ys) width (bits-length width y) in
      let none : x / 2 ^ width ≡ y / 2 ^ width =
      div-eq_of_lt (All-head (λ n. n < 2 ^ width) x xs p) ∙ sym (div-eq_of_lt (All-head (λ n. n < 2 ^ width) y ys q)) in
      ap (λ z. z ∷ xs) (bits-once width x y none bits)
      ∙ ap (λ (zs : List ℕ). y ∷ zs)
      (numbers-once xs ys (All-tail (λ n. n < 2 ^ width) x xs p) (All-tail (λ n. n < 2 ^ width) y ys q) (omega (arith, long)) others)

-- bytes are numbers of 8 bits
pub bytes-fit : (bytes : List ℕ) → ((i : ℕ) → get_or bytes i 0 < 256) → All (λ n. n < 2 ^ 8) (map (λ n. n) bytes)
bytes-fit bytes fit =
    All-map (λ n. n < 2 ^ 8) (λ n. n) bytes (All-from_get_or (λ n. n < 2 ^ 8) bytes 0 (λ i less. fit i))
