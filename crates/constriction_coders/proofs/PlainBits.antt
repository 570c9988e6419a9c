-- Plain bits are put on a state by a shift.
use Rattle.std.proofs.Common.{◌≡◌, ℕ, ◌+◌, ◌-◌, ◌*◌, ◌/◌, ◌%◌, ◌^◌, ◌<◌, ◌≤◌, ap, sym, ◌∙◌, arith}
use Rattle.std.proofs.lemmas.Nat.{shl_whole}
use Rattle.constriction_coders.specs.States.{put}

-- a symbol of weight 1 puts its left cumulative below the state
put_plain : (count bits state : ℕ) → put count bits 1 state ≡ state * 2 ^ count + bits
put_plain count bits state =
    let whole : state / 1 ≡ state = omega arith in
    let none : state % 1 ≡ 0 = omega arith in
    rw (whole, none) (omega arith)

-- the shift of a state that has room loses no bits
pub put_shifted : (count bits state : ℕ) → count ≤ 32 → state < 1 * 2 ^ (64 - count)
    → (state * 2 ^ count) % 2 ^ 64 + bits ≡ put count bits 1 state
put_shifted count bits state fits room =
    ap (λ n. n + bits) (shl_whole state (64 - count) count 64 (omega (arith, room)) (omega (arith, fits)))
    ∙ sym (put_plain count bits state)
