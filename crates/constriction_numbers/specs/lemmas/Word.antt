-- How unsigned integers meet the laws of words. The impls cite these, and a caller's own word may.
use Rattle.std.specs.Prelude.{◌≡◌, ◌≢◌, ◌↔◌, ◌<◌, ◌≤◌, ℕ, pos, Some, IsTrue}
use Rattle.std.specs.Ordering.{nat_cmp, partial_lt, partial_le}
use Rattle.std.proofs.Common.{ap, subst, arith}
use Rattle.std.proofs.Math.Bridge.{le_prop}
use Rattle.std.proofs.lemmas.Grind.{common_steps}
use lib.Signed.{mag}

-- a number above 0 is not 0 as an integer either
pub pos-nonzero : (n : ℕ) → 0 < n → pos n ≢ pos 0
pos-nonzero n up e = let same : n ≡ 0 = ap mag e in absurd (omega arith)

-- equal numbers above 0 make equal values, whatever the proofs that they are above 0
pub same-above-0 : {X : Type 0} (made : (n : ℕ) → 0 < n → X) {m n : ℕ} (h : 0 < m) (k : 0 < n) → m ≡ n → made m h ≡ made n k
same-above-0 made {m} h k e = subst (λ j. (q : 0 < j) → made m h ≡ made j q) e (λ q. ap (made m) (le_prop h q)) k

-- `<` and `<=` of an unsigned type compare the numbers
pub lt-whole : (a b : ℕ) → IsTrue (partial_lt (λ x y. Some (nat_cmp x y)) a b) ↔ (a < b)
lt-whole a b = grind (arith, common_steps)

-- the same of `<=`
pub le-whole : (a b : ℕ) → IsTrue (partial_le (λ x y. Some (nat_cmp x y)) a b) ↔ (a ≤ b)
le-whole a b = grind (arith, common_steps)
