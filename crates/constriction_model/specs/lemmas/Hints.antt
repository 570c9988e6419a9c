-- What an exact size hint says.
use Rattle.std.specs.Prelude.{ℕ, ◌-◌, ◌^◌, Option, Some, None, IfSome}
use Rattle.std.proofs.Common.{arith}
use Rattle.std.proofs.Math.Nat.{min-le_left}
use Rattle.std.specs.Iterator.{UpTo, at_most}
use Rattle.std.specs.Iterator.SizeHint.{IsExactHint, IsWithinCount}

-- Both bounds of an exact hint for n items are right if n items are left.
pub exact-hint : (n : ℕ) (hint : ℕ × Option ℕ) → IsExactHint hint n
    → IsWithinCount hint.0 (at_most n) × IfSome hint.1 (UpTo (at_most n))
exact-hint n (lower, None) e = (λ _. omega (arith, e.0, min-le_left n (2 ^ 64 - 1)), tt)
exact-hint n (lower, Some k) e = (λ _. omega (arith, e.0, min-le_left n (2 ^ 64 - 1)), (tt, omega (arith, e.1)))
