-- The step of an encoder, from its arithmetic.
use Rattle.std.proofs.Common.{◌≡◌, ℕ, ◌+◌, ◌-◌, ◌*◌, ◌/◌, ◌^◌, ◌<◌, ◌≤◌, List, length, ap, sym, ◌∙◌, subst, arith, inl, inr}
use Rattle.std.proofs.lemmas.Nat.{div-add-mod', mul-le, le-div, pow-add, pow_pos}
use Rattle.std.proofs.Math.Pow.{pow_mono}
use Rattle.constriction_coders.specs.Numbers.{number_of}
use Rattle.constriction_coders.specs.Spans.{Span, span, span_of, part_in, IsWidened, IsReached}
use Rattle.constriction_coders.proofs.NumberLemmas.{word-more}

pub same-span : (a b c x y z : ℕ) → a ≡ x → b ≡ y → c ≡ z → span a b c ≡ span x y z
same-span a b c x y z p q r = ap (λ n. span n b c) p ∙ ap (λ n. span x n c) q ∙ ap (λ n. span x y n) r

-- a word more, for the bound of a span
two-more : (k : ℕ) → 2 ^ (32 * (k + 1 + 2)) ≡ 2 ^ (32 * (k + 2)) * 2 ^ 32
two-more k =
    let sum : k + 1 + 2 ≡ k + 2 + 1 = omega arith in
    ap (λ n. 2 ^ (32 * n)) sum ∙ word-more (k + 2)

-- the quantiles of a span have no more numbers than it
pub unit-within : (range precision : ℕ) → range / 2 ^ precision * 2 ^ precision ≤ range
unit-within range precision = omega (arith, div-add-mod' range (2 ^ precision))

-- the part of an entry lies in the span
pub part-within : (precision range unit left weight : ℕ) → unit * 2 ^ precision ≤ range → left + weight ≤ 2 ^ precision
    → unit * left + unit * weight ≤ range
part-within precision range unit left weight within fits =
    omega (arith, within, mul-le unit (left + weight) unit (2 ^ precision) (omega arith) fits)

-- the part is not the span of no symbol, which has an odd number of numbers
pub part-less : (precision range unit left weight : ℕ) → 0 < precision → unit * 2 ^ precision ≤ range → range < 2 ^ 64
    → left + weight ≤ 2 ^ precision → unit * weight < 2 ^ 64 - 1
part-less precision range unit left weight positive within bound fits =
    let sum : 1 + (precision - 1) ≡ precision = omega arith in
    let even : 2 ^ precision ≡ 2 * 2 ^ (precision - 1) = ap (λ n. 2 ^ n) (sym sum) ∙ pow-add 2 1 (precision - 1) in
    omega (
      arith,
      within,
      ap (λ n. unit * n) even,
      mul-le unit weight unit (2 ^ precision) (omega arith) (omega (arith, fits)),
    )

module _ (precision left weight : ℕ) (words raised : List ℕ) (lower range unit part_lower part_range : ℕ)
    (unit_is : unit ≡ range / 2 ^ precision)
    (low_is : number_of raised * 2 ^ 64 + part_lower ≡ number_of words * 2 ^ 64 + lower + unit * left)
    (range_is : part_range ≡ unit * weight) (long : length raised ≡ length words) where
  part-low : number_of raised * 2 ^ 64 + part_lower ≡ number_of words * 2 ^ 64 + lower + range / 2 ^ precision * left
  part-low = subst (λ u. number_of raised * 2 ^ 64 + part_lower ≡ number_of words * 2 ^ 64 + lower + u * left) unit_is low_is

  part-size : part_range ≡ range / 2 ^ precision * weight
  part-size = range_is ∙ ap (λ u. u * weight) unit_is

  -- a part that is not small is the new span
  pub widened-wide : 2 ^ 32 ≤ part_range
      → IsWidened (part_in precision left weight (span_of words lower range)) (span_of raised part_lower part_range)
  widened-wide wide =
      inl (subst (λ n. 2 ^ 32 ≤ n) part-size wide, same-span _ _ _ _ _ _ part-low part-size long)

  -- a small one has a word more
  pub widened-small : (new : List ℕ) (new_lower new_range : ℕ) → part_range < 2 ^ 32
      → number_of new * 2 ^ 64 + new_lower ≡ (number_of raised * 2 ^ 64 + part_lower) * 2 ^ 32 → length new ≡ length raised + 1
      → new_range ≡ part_range * 2 ^ 32
      → IsWidened (part_in precision left weight (span_of words lower range)) (span_of new new_lower new_range)
  widened-small new new_lower new_range small low_new long_new range_new =
      inr (
        subst (λ n. n < 2 ^ 32) part-size small,
        same-span _ _ _ _ _ _ (low_new ∙ ap (λ n. n * 2 ^ 32) part-low) (range_new ∙ ap (λ n. n * 2 ^ 32) part-size)
            (long_new ∙ ap (λ n. n + 1) long),
      )

-- ---- what holds of a span holds of the one that a symbol leaves

module _ (precision left weight : ℕ) (positive : 0 < precision) (few : precision ≤ 32) (some : 0 < weight)
    (fits : left + weight ≤ 2 ^ precision) (old : Span) (reached : IsReached old) where
  part-some : 0 < old.size / 2 ^ precision * weight
  part-some =
      let small : 2 ^ precision ≤ 2 ^ 32 = pow_mono {i = precision} {j = 32} few in
      let unit : 1 ≤ old.size / 2 ^ precision =
      le-div 1 old.size (2 ^ precision) (pow_pos precision) (omega (arith, small, reached.wide)) in
      omega (arith, mul-le 1 1 (old.size / 2 ^ precision) weight unit some)

  less : old.size / 2 ^ precision * weight < 2 ^ 64 - 1
  less = part-less precision old.size (old.size / 2 ^ precision) left weight positive (unit-within old.size precision) reached.fits fits

  within : old.size / 2 ^ precision * left + old.size / 2 ^ precision * weight ≤ old.size
  within = part-within precision old.size (old.size / 2 ^ precision) left weight (unit-within old.size precision) fits

  -- the part of a span of a message is such a span once it is widened
  pub part-reached : (new : Span) → IsWidened (part_in precision left weight old) new → IsReached new
  part-reached new (inl same) =
      subst IsReached (sym same.1) (record {
        wide = same.0;
        fits = omega (arith, less);
        within = omega (arith, within, reached.within);
        begun = λ all. absurd (omega (arith, all, less));
      })
  part-reached new (inr wider) =
      subst IsReached (sym wider.1) (record {
        wide = omega (arith, part-some);
        fits = omega (arith, wider.0);
        within = omega (arith, within, reached.within, two-more (old.written));
        begun = λ all. absurd (omega (arith, all));
      })
