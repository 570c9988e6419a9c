-- The weights of a uniform model, as words compute them.
use Rattle.std.proofs.Common.{◌≡◌, ℕ, ◌+◌, ◌-◌, ◌*◌, ◌/◌, ◌%◌, ◌^◌, ◌<◌, ◌≤◌, refl, ap, sym, ◌∙◌, arith}
use Rattle.std.proofs.Math.Nat.{add-div_right, pow-le-pow_right}
use Rattle.std.proofs.lemmas.Nat.{mul-le}
use Rattle.constriction_model.specs.lemmas.UniformRows.{bin_of, rest_of}
use Rattle.constriction_model.specs.lemmas.UniformRows.{bin-positive, bins-fit}
use Rattle.constriction_model.proofs.Differences.{difference-mod}

-- the weight is one quantile for each symbol, and an equal share of the rest, rounded down
pub bin-divided : (precision last : ℕ) → last < 2 ^ precision
    → (2 ^ precision - 1 - last) / (last + 1) + 1 ≡ bin_of precision last
bin-divided precision last h =
    let all : 2 ^ precision - 1 - last + (last + 1) ≡ 2 ^ precision = omega arith in
    sym (add-div_right (2 ^ precision - 1 - last) {k = last + 1} (omega arith)) ∙ ap (λ n. n / (last + 1)) all

-- if there are at least two symbols, each weight is a word
pub bin-fits : (bits precision last : ℕ) → precision ≤ bits → 0 < last → last < 2 ^ precision
    → (bin_of precision last < 2 ^ bits) × (last * bin_of precision last < 2 ^ bits) × (rest_of precision last < 2 ^ bits)
bin-fits bits precision last narrow some h =
    let bin : ℕ = bin_of precision last in
    let word : 2 ^ precision ≤ 2 ^ bits = pow-le-pow_right {n = 2} (omega arith) narrow in
    let positive : 0 < bin = bin-positive precision last h in
    let taken : bin ≤ last * bin = omega (arith, mul-le 1 bin last bin (omega arith) (omega arith)) in
    let fits : last * bin + bin ≤ 2 ^ precision = bins-fit precision last h in
    (omega arith, omega arith, omega arith)

-- the weight of each symbol but the last one, as it is calculated
pub bin-calculated : (precision last greatest one left range quotient : ℕ) → last < 2 ^ precision
    → greatest + 1 ≡ 2 ^ precision → one + 1 ≡ 2 ^ 1 → left ≡ greatest - last → range ≡ last + one → quotient ≡ left / range
    → quotient + one ≡ bin_of precision last
bin-calculated precision last greatest one left range quotient h g o l r q =
    let less : left ≡ 2 ^ precision - 1 - last = omega arith in
    let more : range ≡ last + 1 = omega arith in
    let divided : quotient ≡ (2 ^ precision - 1 - last) / (last + 1) = rw (q, less, more) refl in
    omega (arith, divided, bin-divided precision last h)

-- The weight of the last symbol is the number below 2 ^ bits that gives 2 ^ precision with the others, modulo 2 ^ bits.
pub rest-wrapped : (bits precision last bin before total rest : ℕ) → precision ≤ bits → 0 < last → last < 2 ^ precision
    → bin ≡ bin_of precision last → before ≡ last * bin → total ≡ 2 ^ precision % 2 ^ bits
    → rest < 2 ^ bits → (rest + before) % 2 ^ bits ≡ total → rest ≡ rest_of precision last
rest-wrapped bits precision last bin before total rest narrow some h b e t small wrapped =
    let fit = bin-fits bits precision last narrow some h in
    let taken : before ≡ last * bin_of precision last = e ∙ ap (λ n. last * n) b in
    let whole : rest_of precision last + last * bin_of precision last ≡ 2 ^ precision =
    omega (arith, bins-fit precision last h) in
    difference-mod (2 ^ bits) rest (rest_of precision last) (last * bin_of precision last) small fit.2 fit.1
    (ap (λ n. (rest + n) % 2 ^ bits) (sym taken) ∙ wrapped ∙ t ∙ ap (λ n. n % 2 ^ bits) (sym whole))

-- the last symbol of a range, in which each symbol has a quantile
pub last-fits : (bits precision range last : ℕ) → precision ≤ bits → 2 ≤ range → range ≤ 2 ^ precision → last ≡ range - 1
    → (0 < last) × (last < 2 ^ precision) × (last < 2 ^ bits) × (last + 1 ≡ range)
last-fits bits precision range last fits some within e =
    let word : 2 ^ precision ≤ 2 ^ bits = pow-le-pow_right {n = 2} (omega arith) fits in
    (omega arith, omega arith, omega arith, omega arith)
