-- How many rows memory is requested for at once.
use Rattle.std.proofs.Common.{arith, ◌∙◌, ◌≡◌, ◌≤◌, ◌^◌, ◌*◌, ◌%◌, min, ℕ}
use Rattle.std.proofs.Math.Nat.{min-eq_left, min-le_left, min-le_right}
use Rattle.std.proofs.Math.Pow.{pow_mono}
use Rattle.std.proofs.lemmas.Nat.{one_shl}

-- 1 shifted left, in a word of 64 bits, by at most `precision` places, is at most 2 ^ precision
pub few_announced : (precision announced places asked : ℕ) → places ≡ min precision 62
    → asked ≡ min announced ((1 * 2 ^ places) % 2 ^ 64) → asked ≤ 2 ^ precision
few_announced precision announced places asked p a =
    let within : places ≤ precision = rw p (min-le_left precision 62) in
    let few : places ≤ 62 = rw p (min-le_right precision 62) in
    let whole : (1 * 2 ^ places) % 2 ^ 64 ≡ 2 ^ places = one_shl places 64 (omega (arith, few)) in
    let least : asked ≤ (1 * 2 ^ places) % 2 ^ 64 = rw a (min-le_right announced ((1 * 2 ^ places) % 2 ^ 64)) in
    omega (arith, least, whole, pow_mono within)

-- all that are announced, if they are no more than that power of two
pub all_announced : (precision announced places asked : ℕ) → places ≡ min precision 62
    → asked ≡ min announced ((1 * 2 ^ places) % 2 ^ 64) → announced ≤ 2 ^ min precision 62 → asked ≡ announced
all_announced precision announced places asked p a within =
    let few : places ≤ 62 = rw p (min-le_right precision 62) in
    let whole : (1 * 2 ^ places) % 2 ^ 64 ≡ 2 ^ places = one_shl places 64 (omega (arith, few)) in
    let enough : announced ≤ (1 * 2 ^ places) % 2 ^ 64 = rw (whole, p) within in
    a ∙ min-eq_left enough
