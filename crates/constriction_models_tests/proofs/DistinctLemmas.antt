-- Clones that are equal, as constructors and conversions that compare no symbols require.
use Rattle.std.proofs.Common.{◌≡◌, ℕ, true}
use Rattle.std.specs.Prelude.{nat_eq}
use Rattle.std.specs.Cmp.{nat_eq_equiv}

-- a clone of a number or a letter is that value, and so is equal to it
pub same_are_equal : (x y : ℕ) → y ≡ x → nat_eq x y ≡ true
same_are_equal x y e = rw e (nat_eq_equiv.refl x)
