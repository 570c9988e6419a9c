-- A symbol that was put on a state is taken from it again.
use Rattle.std.proofs.Common.{◌≡◌, ℕ, ◌+◌, ◌-◌, ◌*◌, ◌/◌, ◌%◌, ◌^◌, ◌<◌, ◌≤◌, ap, sym, ◌∙◌, arith}
use Rattle.std.proofs.lemmas.Nat.{pow_pos, pow-add, div-mul-add, mod-mul-add, mod_below, mul-le, mul-add-lt, div_below, le-div}
use Rattle.std.proofs.lemmas.Nat.{div-add-mod', one_shl, shl_whole}
use Rattle.std.proofs.Math.Nat.{div-add-mod, mul_assoc, mul_comm}
use Rattle.std.proofs.Math.Pow.{pow_mono}
use Rattle.constriction_coders.specs.States.{put, taken}

-- 2 ^ precision as the code makes it
pub one_shifted : (precision : ℕ) → precision ≤ 32 → (1 * 2 ^ precision) % 2 ^ 64 ≡ 2 ^ precision
one_shifted precision h = one_shl precision 64 (omega arith)

-- a quantile fits a word
pub mod_fits : (n precision : ℕ) → precision ≤ 32 → n % 2 ^ precision < 2 ^ 32
mod_fits n precision h = omega (arith, mod_below n (2 ^ precision) (pow_pos precision), pow_mono {i = precision} {j = 32} h)

-- w is at most the quotient of s exactly if the multiple of w is at most s
pub full_is : (s w k : ℕ) → w ≤ s / 2 ^ k → w * 2 ^ k ≤ s
full_is s w k h = omega (arith, mul-le w (2 ^ k) (s / 2 ^ k) (2 ^ k) h (omega arith), div-add-mod' s (2 ^ k))

-- the same the other way round
pub not_full_is : (s w k : ℕ) → w * 2 ^ k ≤ s → w ≤ s / 2 ^ k
not_full_is s w k h = le-div w s (2 ^ k) (pow_pos k) h

module _ (precision left weight state : ℕ) (some : 0 < weight) (within : left + weight ≤ 2 ^ precision) where
  -- the quantile that a symbol gives the state is below 2 ^ precision
  pub place : left + state % weight < 2 ^ precision
  place = omega (arith, mod_below state weight some)

  -- the state with a symbol on top has this quantile
  pub put_quantile : put precision left weight state % 2 ^ precision ≡ left + state % weight
  put_quantile = mod-mul-add (state / weight) (2 ^ precision) (left + state % weight) place

  -- a symbol that is put on top and taken leaves the state as it was
  pub taken_put : taken precision left weight (put precision left weight state) ≡ state
  taken_put =
      let above : put precision left weight state / 2 ^ precision ≡ state / weight =
      div-mul-add (state / weight) (2 ^ precision) (left + state % weight) place in
      rw (put_quantile, above) (omega (arith, div-add-mod state weight))

  module _ (fits : precision ≤ 32) (room : state < weight * 2 ^ (64 - precision)) where
    whole : 2 ^ (64 - precision) * 2 ^ precision ≡ 2 ^ 64
    whole =
        let sum : 64 - precision + precision ≡ 64 = omega arith in
        sym (pow-add 2 (64 - precision) precision) ∙ ap (λ n. 2 ^ n) sum

    quotient : state / weight < 2 ^ (64 - precision)
    quotient = div_below state weight (2 ^ (64 - precision)) some (omega (arith, room))

    -- a state that has room stays below 2 ^ 64
    pub put_below : put precision left weight state < 2 ^ 64
    put_below = omega (
      arith,
      whole,
      mul-add-lt (state / weight) (2 ^ precision) (left + state % weight) (2 ^ (64 - precision)) quotient place,
    )

    -- the shift of a state that has room loses no bits
    pub shifted : (state / weight * 2 ^ precision) % 2 ^ 64 ≡ state / weight * 2 ^ precision
    shifted = shl_whole (state / weight) (64 - precision) precision 64 quotient (omega arith)

-- the state without the symbol on top is no greater
pub taken_at_most : (precision left weight state : ℕ) → left + weight ≤ 2 ^ precision
    → taken precision left weight state ≤ state
taken_at_most precision left weight state within =
    omega (
      arith,
      div-add-mod state (2 ^ precision),
      mul-le weight (state / 2 ^ precision) (2 ^ precision) (state / 2 ^ precision) (omega arith) (omega arith),
    )

-- without the symbol on top, a state of at least 2 ^ 32 is not 0
pub taken_some : (precision left weight state : ℕ) → precision ≤ 32 → 0 < weight → 2 ^ 32 ≤ state
    → 0 < taken precision left weight state
taken_some precision left weight state fits some least =
    let above : 2 ^ precision ≤ state = omega (arith, pow_mono {i = precision} {j = 32} fits) in
    let high : 1 ≤ state / 2 ^ precision = le-div 1 state (2 ^ precision) (pow_pos precision) (omega (arith, above)) in
    omega (arith, mul-le 1 1 weight (state / 2 ^ precision) some high)

-- a state without room has room when a word has left it, and with the symbol on top it is at least 2 ^ 32
pub room_after : (precision weight state : ℕ) → precision ≤ 32 → 0 < weight → state < 2 ^ 64
    → state / 2 ^ 32 < weight * 2 ^ (64 - precision)
room_after precision weight state fits some below =
    let wide : 2 ^ 32 ≤ 2 ^ (64 - precision) = pow_mono {i = 32} {j = 64 - precision} (omega arith) in
    omega (arith, wide, mul-le 1 (2 ^ (64 - precision)) weight (2 ^ (64 - precision)) some (omega arith))

-- a state that a word has left is at least 2 ^ 32 once a symbol is put on it
pub least_after : (precision left weight state : ℕ) → precision ≤ 32 → 0 < weight → weight * 2 ^ (64 - precision) ≤ state
    → 2 ^ 32 ≤ put precision left weight (state / 2 ^ 32)
least_after precision left weight state fits some full =
    let sum : 64 - precision ≡ 32 - precision + 32 = omega arith in
    let split : weight * 2 ^ (64 - precision) ≡ weight * 2 ^ (32 - precision) * 2 ^ 32 =
    ap (λ n. weight * 2 ^ n) sum ∙ ap (λ n. weight * n) (pow-add 2 (32 - precision) 32)
    ∙ sym (mul_assoc weight (2 ^ (32 - precision)) (2 ^ 32)) in
    let high : weight * 2 ^ (32 - precision) ≤ state / 2 ^ 32 = omega (arith, split, full) in
    let quotient : 2 ^ (32 - precision) ≤ state / 2 ^ 32 / weight =
    le-div (2 ^ (32 - precision)) (state / 2 ^ 32) weight some (omega (arith, high)) in
    let whole : 2 ^ (32 - precision) * 2 ^ precision ≡ 2 ^ 32 =
    let back : 32 - precision + precision ≡ 32 = omega arith in
    sym (pow-add 2 (32 - precision) precision) ∙ ap (λ n. 2 ^ n) back in
    omega (arith, whole, mul-le (2 ^ (32 - precision)) (2 ^ precision) (state / 2 ^ 32 / weight) (2 ^ precision) quotient (omega arith))

-- what is taken from a state that has the symbol on top, and put there again, gives that state
pub put_taken : (precision left weight state : ℕ) → 0 < weight → left + weight ≤ 2 ^ precision → left ≤ state % 2 ^ precision
    → state % 2 ^ precision < left + weight → put precision left weight (taken precision left weight state) ≡ state
put_taken precision left weight state some within from to =
    let place : state % 2 ^ precision - left < weight = omega (arith, from, to) in
    let quotient : taken precision left weight state / weight ≡ state / 2 ^ precision =
    rw (mul_comm weight (state / 2 ^ precision)) (div-mul-add (state / 2 ^ precision) weight (state % 2 ^ precision - left) place) in
    let remainder : taken precision left weight state % weight ≡ state % 2 ^ precision - left =
    rw (mul_comm weight (state / 2 ^ precision)) (mod-mul-add (state / 2 ^ precision) weight (state % 2 ^ precision - left) place) in
    rw (quotient, remainder) (omega (arith, from, div-add-mod' state (2 ^ precision)))

module _ (precision left weight state : ℕ) (fits : precision ≤ 32) (some : 0 < weight) (within : left + weight ≤ 2 ^ precision) where
  above : put precision left weight state / 2 ^ precision ≡ state / weight
  above = div-mul-add (state / weight) (2 ^ precision) (left + state % weight) (place precision left weight state some within)

  -- if the new state is below 2 ^ 64, the old one had room
  pub put_low : put precision left weight state < 2 ^ 64 → state < weight * 2 ^ (64 - precision)
  put_low below =
      let sum : 64 - precision + precision ≡ 64 = omega arith in
      let all : 2 ^ (64 - precision) * 2 ^ precision ≡ 2 ^ 64 = sym (pow-add 2 (64 - precision) precision) ∙ ap (λ n. 2 ^ n) sum in
      let quotient : state / weight < 2 ^ (64 - precision) =
      rw above at (div_below (put precision left weight state) (2 ^ precision) (2 ^ (64 - precision)) (pow_pos precision)
      (omega (arith, below, all))) in
      omega (
        arith,
        div-add-mod' state weight,
        mod_below state weight some,
        mul-le (state / weight + 1) weight (2 ^ (64 - precision)) weight (omega (arith, quotient)) (omega arith),
      )

  -- if the new state is at least 2 ^ 32, the old one is not too small for that
  pub put_high : 2 ^ 32 ≤ put precision left weight state → weight * 2 ^ (64 - precision) ≤ state * 2 ^ 32
  put_high least =
      let sum : 32 - precision + precision ≡ 32 = omega arith in
      let all : 2 ^ (32 - precision) * 2 ^ precision ≡ 2 ^ 32 = sym (pow-add 2 (32 - precision) precision) ∙ ap (λ n. 2 ^ n) sum in
      let quotient : 2 ^ (32 - precision) ≤ state / weight =
      rw above at (le-div (2 ^ (32 - precision)) (put precision left weight state) (2 ^ precision) (pow_pos precision)
      (omega (arith, least, all))) in
      let split : 2 ^ (64 - precision) ≡ 2 ^ (32 - precision) * 2 ^ 32 =
      let more : 64 - precision ≡ 32 - precision + 32 = omega arith in
      ap (λ n. 2 ^ n) more ∙ pow-add 2 (32 - precision) 32 in
      let old : 2 ^ (32 - precision) * weight ≤ state =
      omega (arith, div-add-mod' state weight, mul-le (2 ^ (32 - precision)) weight (state / weight) weight quotient (omega arith)) in
      omega (arith, ap (λ n. weight * n) split, mul-le (2 ^ (32 - precision) * weight) (2 ^ 32) state (2 ^ 32) old (omega arith))
