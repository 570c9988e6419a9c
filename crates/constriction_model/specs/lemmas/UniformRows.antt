-- The rows of a uniform model, for the models' laws.
use Rattle.std.specs.Prelude.{◌≡◌, ℕ, ◌+◌, ◌-◌, ◌*◌, ◌/◌, ◌%◌, ◌^◌, ◌<◌, ◌≤◌, ◌⊎◌, Some, None, nat_eq}
use Rattle.std.specs.Prelude.{List, [], ◌∷◌, ◌++◌, length, replicate, All, sum, take}
use Rattle.std.proofs.Common.{get_or, refl, ap, sym, ◌∙◌, arith, subst, inl, inr}
use Rattle.std.proofs.lemmas.Nat.{div-add-mod', le-div, mod_below, mul-le}
use Rattle.std.proofs.Math.Nat.{pow-le-pow_right}
use Rattle.std.proofs.lemmas.List.{length-append, length-replicate, get_or-replicate, get_or_append_left, get_or_push}
use Rattle.std.proofs.lemmas.List.{take-append-le, take-replicate}
use Rattle.std.proofs.lemmas.List.Elements.{All-push, All-replicate}
use Rattle.std.proofs.lemmas.List.FromFn.{length-range_with_len, get_or-range_with_len}
use Rattle.std.proofs.lemmas.List.Folds.{sum_by-replicate}
use Rattle.std.proofs.lemmas.List.Sums.{sum_by_push}
use Rattle.constriction_model.specs.Acceptance.{IsAccepted}
use Rattle.constriction_model.specs.lemmas.Coding.{rows-within}
use Rattle.constriction_model.specs.Model.{LiesWithin}
use Rattle.constriction_model.specs.lemmas.Rows.{indices, length-rows_from, weights-rows_from, symbols-rows_from}
use Rattle.constriction_model.specs.lemmas.Rows.{rows_from-at, contiguous-at, contiguous-past}
use Rattle.constriction_model.specs.Rows.{Row, contiguous_rows, uniform_weights, uniform_rows, RowsTile, IsRowOf, entry_of}

-- in a uniform model whose last symbol is `last`, the weight of each other symbol
abbrev pub bin_of : ℕ → ℕ → ℕ
bin_of precision last = 2 ^ precision / (last + 1)

-- the weight that they leave for the last one
abbrev pub rest_of : ℕ → ℕ → ℕ
rest_of precision last = 2 ^ precision - last * bin_of precision last

-- k weights and a last one
abbrev with_last : (k bin rest : ℕ) → List ℕ
with_last k bin rest = replicate k bin ++ rest ∷ []

length-with_last : (k bin rest : ℕ) → length (with_last k bin rest) ≡ k + 1
length-with_last k bin rest = omega (arith, length-append (replicate k bin) (rest ∷ []), length-replicate k bin)

sum-before : (k bin rest i : ℕ) → i ≤ k → sum (take i (with_last k bin rest)) ≡ i * bin
sum-before k bin rest i h =
    let long : i ≤ length (replicate k bin) = omega (arith, length-replicate k bin) in
    ap sum (take-append-le i (replicate k bin) (rest ∷ []) long ∙ take-replicate i k bin h) ∙ sum_by-replicate (λ x. x) i bin

sum-with_last : (k bin rest : ℕ) → sum (with_last k bin rest) ≡ k * bin + rest
sum-with_last k bin rest = omega (arith, sum_by_push (λ x. x) (replicate k bin) rest, sum_by-replicate (λ x. x) k bin)

at-with_last : (k bin rest i : ℕ) → i < k → get_or (with_last k bin rest) i 0 ≡ bin
at-with_last k bin rest i h =
    let long : i < length (replicate k bin) = omega (arith, length-replicate k bin) in
    get_or_append_left (replicate k bin) (rest ∷ []) 0 i long ∙ get_or-replicate k i bin 0 h

last-with_last : (k bin rest : ℕ) → get_or (with_last k bin rest) k 0 ≡ rest
last-with_last k bin rest = get_or_push (replicate k bin) rest 0 k (length-replicate k bin)

-- w is the weight of the symbol k
abbrev pub IsWeight : ℕ → ℕ → ℕ → ℕ → Type 0
IsWeight precision last k w =
    ((k < last) × (w ≡ bin_of precision last)) ⊎ ((k ≡ last) × (w ≡ rest_of precision last))

weights-are : (precision last : ℕ)
    → uniform_weights precision (last + 1) ≡ with_last last (bin_of precision last) (rest_of precision last)
weights-are precision last =
    let less : last + 1 - 1 ≡ last = omega arith in
    ap (λ k. with_last k (bin_of precision last) (2 ^ precision - k * bin_of precision last)) less

-- there are as many weights, and rows, as symbols
pub length-uniform_weights : (precision last : ℕ) → length (uniform_weights precision (last + 1)) ≡ last + 1
length-uniform_weights precision last =
    ap length (weights-are precision last) ∙ length-with_last last (bin_of precision last) (rest_of precision last)

-- there are as many rows as symbols
pub length-uniform_rows : (precision last : ℕ) → length (uniform_rows precision (last + 1)) ≡ last + 1
length-uniform_rows precision last =
    let ws : List ℕ = uniform_weights precision (last + 1) in
    length-rows_from 0 (indices (length ws)) ws (length-range_with_len 0 (length ws)) ∙ length-uniform_weights precision last

module _ (precision last : ℕ) (within : last < 2 ^ precision) where
  -- each symbol has a quantile
  pub bin-positive : 0 < bin_of precision last
  bin-positive = le-div 1 (2 ^ precision) (last + 1) (omega arith) (omega arith)

  -- all symbols together have no more than 2 ^ precision quantiles, at that weight
  pub bins-fit : last * bin_of precision last + bin_of precision last ≤ 2 ^ precision
  bins-fit = omega (arith, div-add-mod' (2 ^ precision) (last + 1))

  -- the last symbol has a quantile
  pub rest-positive : 0 < rest_of precision last
  rest-positive = omega (arith, bin-positive, bins-fit)

  uniform-accepted : (bits : ℕ) → precision ≤ bits → 0 < last
      → IsAccepted bits precision (with_last last (bin_of precision last) (rest_of precision last))
  uniform-accepted bits fits some =
      let word : 2 ^ precision ≤ 2 ^ bits = pow-le-pow_right {n = 2} (omega arith) fits in
      let bin : ℕ = bin_of precision last in
      let taken : bin ≤ last * bin = omega (arith, mul-le 1 bin last bin (omega arith) (omega arith)) in
      record {
        tiles = record {
          positive = All-push (λ w. 0 < w) (replicate last (bin_of precision last)) (rest_of precision last)
              (All-replicate (λ w. 0 < w) last (bin_of precision last) bin-positive) rest-positive;
          total = omega (arith, sum-with_last last (bin_of precision last) (rest_of precision last), bins-fit);
        };
        fit = All-push (λ w. w < 2 ^ bits) (replicate last (bin_of precision last)) (rest_of precision last)
            (All-replicate (λ w. w < 2 ^ bits) last (bin_of precision last) (omega (arith, bins-fit, bin-positive)))
            (omega (arith, bin-positive));
      }

  -- the rows of a uniform model tile
  pub uniform-tiles : (bits : ℕ) → precision ≤ bits → 0 < last → RowsTile bits precision (uniform_rows precision (last + 1))
  uniform-tiles bits fits some =
      let ws : List ℕ = uniform_weights precision (last + 1) in
      let weights = weights-rows_from 0 (indices (length ws)) ws (length-range_with_len 0 (length ws)) in
      let symbols = symbols-rows_from 0 (indices (length ws)) ws (length-range_with_len 0 (length ws)) in
      let accepted : IsAccepted bits precision ws = rw (weights-are precision last) (uniform-accepted bits fits some) in
      record { accepted = rw weights accepted; in_order = rw (weights, symbols) refl }

  -- each of them has quantiles, all below 2 ^ precision
  pub uniform-within : (bits : ℕ) → precision ≤ bits → 0 < last → All (LiesWithin precision) (uniform_rows precision (last + 1))
  uniform-within bits fits some = rows-within bits precision (uniform_rows precision (last + 1)) (uniform-tiles bits fits some)

  weight-at : (k w : ℕ) → IsWeight precision last k w → get_or (uniform_weights precision (last + 1)) k 0 ≡ w
  weight-at k w is =
      ap (λ xs. get_or xs k 0) (weights-are precision last) ∙ elim is [
        | inl x ↦ at-with_last last (bin_of precision last) (rest_of precision last) k x.0 ∙ sym x.1
        | inr x ↦ ap (λ i. get_or (with_last last (bin_of precision last) (rest_of precision last)) i 0) x.0
            ∙ last-with_last last (bin_of precision last) (rest_of precision last) ∙ sym x.1
      ]

  left-at : (k : ℕ) → k ≤ last → sum (take k (uniform_weights precision (last + 1))) ≡ k * bin_of precision last
  left-at k h =
      ap (λ xs. sum (take k xs)) (weights-are precision last)
      ∙ sum-before last (bin_of precision last) (rest_of precision last) k h

  module _ (k s l w : ℕ) (same : s ≡ k) (le : l ≡ s * bin_of precision last) (is : IsWeight precision last s w) where
    at_k : (l ≡ k * bin_of precision last) × IsWeight precision last k w
    at_k = subst (λ (n : ℕ). (l ≡ n * bin_of precision last) × IsWeight precision last n w) same (le, is)

    -- the row of a symbol
    pub uniform-at : (d : Row ℕ) → k ≤ last
        → get_or (uniform_rows precision (last + 1)) k d ≡ record { symbol = k; left = l; weight = w }
    uniform-at d h =
        let ws : List ℕ = uniform_weights precision (last + 1) in
        let here : k < length ws = omega (arith, length-uniform_weights precision last) in
        rows_from-at 0 (indices (length ws)) ws k d (length-range_with_len 0 (length ws)) here
        ∙ ap (λ n. record { symbol = n; left = 0 + sum (take k ws); weight = get_or ws k 0 })
        (get_or-range_with_len 0 (length ws) k d.symbol here ∙ (let e : 0 + k ≡ k = omega arith in e))
        ∙ ap (λ n. record { symbol = k; left = n; weight = get_or ws k 0 })
        (let e : 0 + sum (take k ws) ≡ l = omega (arith, left-at k h, at_k.0) in e)
        ∙ ap (λ v. record { symbol = k; left = l; weight = v }) (weight-at k w at_k.1)

    -- its entry
    pub uniform-entry : k ≤ last → Some (l, w) ≡ entry_of nat_eq (uniform_rows precision (last + 1)) k
    uniform-entry h =
        let ws : List ℕ = uniform_weights precision (last + 1) in
        let here : k < length ws = omega (arith, length-uniform_weights precision last) in
        let left : 0 + sum (take k ws) ≡ l = omega (arith, left-at k h, at_k.0) in
        let e : 0 + k ≡ k = omega arith in
        sym (ap (entry_of nat_eq (contiguous_rows ws)) (sym e) ∙ contiguous-at 0 0 ws k here
        ∙ ap (λ n. Some (n, get_or ws k 0)) left ∙ ap (λ n. Some (l, n)) (weight-at k w at_k.1))

    -- it is the row of a quantile if the symbol is the quotient by the weight, or is the last one and the quotient is no less
    pub uniform-row_of : (q b : ℕ) → q < 2 ^ precision → b ≡ bin_of precision last → (s < last → s ≡ q / b)
        → (s ≡ last → last ≤ q / b)
        → IsRowOf (uniform_rows precision (last + 1)) q (record { symbol = k; left = l; weight = w })
    uniform-row_of q b below bin_is before after =
        let bin : ℕ = bin_of precision last in
        let same_quotient : q / b ≡ q / bin = ap (λ n. q / n) bin_is in
        let first : s < last → s ≡ q / bin = λ x. before x ∙ same_quotient in
        let others : s ≡ last → last ≤ q / bin = λ x. omega (arith, after x, same_quotient) in
        let split : q / bin * bin + q % bin ≡ q = div-add-mod' q bin in
        let less : q % bin < bin = mod_below q bin bin-positive in
        let h : k ≤ last = elim at_k.1 [ inl x ↦ omega (arith, x.0) | inr x ↦ omega (arith, x.0) ] in
        let here : k < length (uniform_rows precision (last + 1)) = omega (arith, length-uniform_rows precision last) in
        record {
          among = (k, here, uniform-at _ h);
          from = elim is [
            | inl x ↦ (let e : s ≡ q / bin = first x.0 in rw le (rw e (omega arith)))
            | inr x ↦
                let least : s ≤ q / bin = omega (arith, others x.0, x.0) in
                let more : s * bin ≤ q / bin * bin = mul-le s bin (q / bin) bin least (omega arith) in
                omega arith
          ];
          to = elim is [
            | inl x ↦ (let e : s ≡ q / bin = first x.0 in rw (le, x.1) (rw e (omega arith)))
            | inr x ↦ omega (arith, x.1, ap (λ i. i * bin) x.0, bins-fit)
          ];
        }

  -- the same with the equation of the symbol the other way round
  pub uniform-found : (k s l w : ℕ) → k ≡ s → l ≡ s * bin_of precision last → IsWeight precision last s w
      → (q b : ℕ) → q < 2 ^ precision → b ≡ bin_of precision last → (s < last → s ≡ q / b) → (s ≡ last → last ≤ q / b)
      → IsRowOf (uniform_rows precision (last + 1)) q (record { symbol = k; left = l; weight = w })
  uniform-found k s l w same = uniform-row_of k s l w (sym same)

  -- a number that is no symbol has no entry
  pub uniform-no_entry : (k : ℕ) → last < k → None ≡ entry_of nat_eq (uniform_rows precision (last + 1)) k
  uniform-no_entry k h =
      let ws : List ℕ = uniform_weights precision (last + 1) in
      sym (contiguous-past 0 0 ws k (inr (omega (arith, length-uniform_weights precision last))))

  -- the left cumulative of a symbol is a word
  pub left-fits : (bits k : ℕ) → precision ≤ bits → k ≤ last → k * bin_of precision last < 2 ^ bits
  left-fits bits k fits h =
      let bin : ℕ = bin_of precision last in
      let word : 2 ^ precision ≤ 2 ^ bits = pow-le-pow_right {n = 2} (omega arith) fits in
      let before : k * bin ≤ last * bin = mul-le k bin last bin h (omega arith) in
      omega (arith, bins-fit, bin-positive)
