-- Powers of two.
use Rattle.std.proofs.Common.{◌≡◌, ℕ, ◌+◌, ◌-◌, ◌*◌, ◌/◌, ◌^◌, ◌<◌, ◌≤◌, ap, ◌∙◌, arith}
use Rattle.std.proofs.lemmas.Nat.{pow_pos, pow-add, div-mul-add}

less-one : (k m d : ℕ) → m ≡ k + 1 → 0 < d → m * d - 1 ≡ k * d + (d - 1)
less-one k m d e up = rw e (omega arith)

-- the greatest word of b bits, shifted right to p bits, is the greatest word of p bits
pub shift-greatest : (b p top r : ℕ) → p ≤ b → top ≡ 2 ^ b - 1 → r ≡ top / 2 ^ (b - p) → r + 1 ≡ 2 ^ p
shift-greatest b p top r le top-is r-is =
    let split : 2 ^ b ≡ 2 ^ p * 2 ^ (b - p) = (let e : b ≡ p + (b - p) = omega arith in ap (λ k. 2 ^ k) e) ∙ pow-add 2 p (b - p) in
    let whole : 2 ^ p ≡ (2 ^ p - 1) + 1 = omega (arith, pow_pos p) in
    let parts : top ≡ (2 ^ p - 1) * 2 ^ (b - p) + (2 ^ (b - p) - 1) =
    top-is ∙ ap (λ n. n - 1) split ∙ less-one (2 ^ p - 1) (2 ^ p) (2 ^ (b - p)) whole (pow_pos (b - p)) in
    let low : 2 ^ (b - p) - 1 < 2 ^ (b - p) = omega (arith, pow_pos (b - p)) in
    let is : r ≡ 2 ^ p - 1 = r-is ∙ ap (λ n. n / 2 ^ (b - p)) parts ∙ div-mul-add (2 ^ p - 1) (2 ^ (b - p)) (2 ^ (b - p) - 1) low in
    omega (arith, pow_pos p)
