-- No symbol came: the digits are all 0.
use Rattle.std.specs.Prelude.{◌≡◌, ℕ, ◌-◌, ◌*◌, ◌^◌, ◌<◌, ◌≤◌}
use Rattle.std.proofs.Common.{suc, ap, arith, sym, ◌∙◌}
use Rattle.std.proofs.Math.Nat.{pow-le-pow_right, pow-succ', pow-zero}
use Rattle.constriction_adaptive.specs.LastSymbols.{IsRecent, recent}

-- a context in which nothing came
pub none-kept : (symbols order older : ℕ) → 0 < symbols → 0 < order → symbols ^ order < 2 ^ 64 → older ≡ symbols ^ (order - 1)
    → IsRecent (recent symbols older 0)
none-kept symbols order older some any few is =
    let next : suc (order - 1) ≡ order = omega (arith, any) in
    let whole : symbols * older ≡ symbols ^ order =
    ap (λ o. symbols * o) is ∙ sym (pow-succ' symbols (order - 1)) ∙ ap (λ e. symbols ^ e) next in
    let digits : symbols ^ 0 ≤ symbols ^ (order - 1) = pow-le-pow_right some (omega arith) in
    let all : symbols ^ 0 ≤ symbols ^ order = pow-le-pow_right some (omega arith) in
    record {
      some = some;
      digits = omega (arith, digits, is, pow-zero symbols);
      below = omega (arith, whole, all, pow-zero symbols);
      few = omega (arith, whole, few);
    }
