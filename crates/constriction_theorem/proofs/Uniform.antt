-- Which weights are those of a uniform model.
use Rattle.std.proofs.Common.{◌≡◌, ℕ, suc, zero, ◌+◌, ◌-◌, ◌*◌, ◌/◌, ◌^◌, ◌<◌, ◌≤◌, List, [], ◌∷◌, ◌++◌, length, map, replicate, take, get_or, refl, ap, sym, ◌∙◌, arith, subst, length-append}
use Rattle.std.specs.Prelude.{All, sum}
use Rattle.std.proofs.lemmas.List.{length-map, length-replicate, take_all, take_more}
use Rattle.std.proofs.lemmas.List.Elements.{All-cons, All-push}
use Rattle.std.proofs.lemmas.List.Folds.{sum_by-replicate}
use Rattle.std.proofs.lemmas.List.Sums.{sum_by_push, sum_by-cons}
use Rattle.std.proofs.lemmas.List.FromFn.{length-range_with_len}
use Rattle.constriction_model.specs.Acceptance.{Tiles}
use Rattle.constriction_model.specs.Rows.{contiguous_rows, uniform_rows, uniform_weights}
use Rattle.constriction_model.specs.lemmas.Rows.{indices, weights-rows_from}

-- words up to one more all have a number
pub one-more-same : {Word : Type 0} (whole : Word → ℕ) (n : ℕ) (words : List Word) (i : ℕ) (word : Word) → i < length words
    → word ≡ get_or words i word → All (λ w. whole w ≡ n) (take i words) → whole word ≡ n → All (λ w. whole w ≡ n) (take (i + 1) words)
one-more-same {Word} whole n words i word within is so_far same =
    subst (λ (ws : List Word). All (λ w. whole w ≡ n) ws) (sym (take_more words i word within))
    (All-push (λ w. whole w ≡ n) (take i words) (get_or words i word) so_far (ap whole (sym is) ∙ same))

-- words up to the end are all words
pub same-to-the-end : {Word : Type 0} (whole : Word → ℕ) (n : ℕ) (words : List Word) (i : ℕ) → length words ≤ i
    → All (λ w. whole w ≡ n) (take i words) → All (λ w. whole w ≡ n) words
same-to-the-end {Word} whole n words i ended so_far =
    subst (λ (ws : List Word). All (λ w. whole w ≡ n) ws) (take_all i words ended) so_far

-- words that all have one number
all-same : {Word : Type 0} (whole : Word → ℕ) (words : List Word) (n : ℕ) → All (λ word. whole word ≡ n) words
    → map whole words ≡ replicate (length words) n
all-same whole [] n h = refl
all-same whole (w ∷ ws) n h =
    let first : whole w ≡ n = h 0 w (omega arith) in
    ap (λ m. m ∷ map whole ws) first ∙ ap (λ ms. n ∷ ms) (all-same whole ws n (λ k d within. h (suc k) d (omega arith)))

same-all : {Word : Type 0} (whole : Word → ℕ) (words : List Word) (k n : ℕ) → map whole words ≡ replicate k n
    → All (λ word. whole word ≡ n) words
same-all whole [] k n e = λ j d within. absurd (omega arith)
same-all whole (w ∷ ws) zero n e = absurd (cc)
same-all whole (w ∷ ws) (suc k) n e =
    let first : whole w ≡ n = cc in
    let rest : map whole ws ≡ replicate k n = cc in
    All-cons (λ word. whole word ≡ n) w ws first (same-all whole ws k n rest)

-- lists that end in one element each are equal only if what is before it is
same-before : {X : Type 0} (xs ys : List X) (x y : X) → xs ++ x ∷ [] ≡ ys ++ y ∷ [] → xs ≡ ys
same-before [] [] x y e = refl
same-before [] (z ∷ ys) x y e = absurd (omega (arith, ap length e, length-append ys (y ∷ [])))
same-before (z ∷ xs) [] x y e = absurd (omega (arith, ap length e, length-append xs (x ∷ [])))
same-before (z ∷ xs) (w ∷ ys) x y e =
    let first : z ≡ w = cc in
    let rest : xs ++ x ∷ [] ≡ ys ++ y ∷ [] = cc in
    let same = same-before xs ys x y rest in
    cc

-- there are no more positive numbers than they add up to
pub few-positive : (ns : List ℕ) → All (λ n. 0 < n) ns → length ns ≤ sum ns
few-positive [] h = omega arith
few-positive (n ∷ ns) h =
    omega (
      arith,
      h 0 n (omega arith),
      few-positive ns (λ k d within. h (suc k) d (omega arith)),
      sum_by-cons (λ x. x) n ns,
    )

-- the weights of contiguous rows
weights-again : (ws : List ℕ) → map (λ r. r.weight) (contiguous_rows ws) ≡ ws
weights-again ws = weights-rows_from 0 (indices (length ws)) ws (length-range_with_len 0 (length ws))

-- weights that tile, and those before the last one
module _ {Word : Type 0} (whole : Word → ℕ) (precision : ℕ) {all : List ℕ} (before : List Word) (last : ℕ)
    (is : all ≡ map whole before ++ last ∷ []) (tiles : Tiles precision all) where
  abbrev n : ℕ
  n = length before + 1

  many : length all ≡ n
  many = omega (arith, ap length is, length-append (map whole before) (last ∷ []), length-map before whole)

  -- no model has more symbols than quantiles
  pub few : n ≤ 2 ^ precision
  few = omega (arith, many, few-positive all tiles.positive, tiles.total)

  -- if each weight but the last is the quotient by their number, the rows are uniform
  pub are-uniform : All (λ word. whole word ≡ 2 ^ precision / n) before → contiguous_rows all ≡ uniform_rows precision n
  are-uniform same =
      let b : ℕ = 2 ^ precision / n in
      let less : length before ≡ n - 1 = omega arith in
      let alike = all-same whole before b same ∙ ap (λ k. replicate k b) less in
      let total : sum (map whole before) + last ≡ 2 ^ precision =
      sym (sum_by_push (λ x. x) (map whole before) last) ∙ ap sum (sym is) ∙ tiles.total in
      let taken : sum (map whole before) ≡ (n - 1) * b = ap sum alike ∙ sum_by-replicate (λ x. x) (n - 1) b in
      let rest : last ≡ 2 ^ precision - (n - 1) * b = omega (arith, total, taken) in
      ap contiguous_rows (is ∙ ap (λ ws. ws ++ last ∷ []) alike ∙ ap (λ w. replicate (n - 1) b ++ w ∷ []) rest)

  -- if the rows are uniform, the weights are uniform
  uniform-weights : (m : ℕ) → contiguous_rows all ≡ uniform_rows precision m
      → map whole before ++ last ∷ [] ≡ uniform_weights precision m
  uniform-weights m e =
      sym is ∙ sym (weights-again all) ∙ ap (map (λ r. r.weight)) e ∙ weights-again (uniform_weights precision m)

  -- and there are as many
  pub uniform-many : (m : ℕ) → 2 ≤ m → contiguous_rows all ≡ uniform_rows precision m → m ≡ n
  uniform-many m some e =
      let b : ℕ = 2 ^ precision / m in
      omega (
        arith,
        some,
        ap length (uniform-weights m e),
        length-append (map whole before) (last ∷ []),
        length-map before whole,
        length-append (replicate (m - 1) b) ((2 ^ precision - (m - 1) * b) ∷ []),
        length-replicate (m - 1) b,
      )

  -- and each but the last is the quotient by their number
  pub uniform-before : (m : ℕ) → 2 ≤ m → contiguous_rows all ≡ uniform_rows precision m
      → All (λ word. whole word ≡ 2 ^ precision / n) before
  uniform-before m some e =
      let b : ℕ = 2 ^ precision / m in
      let same = same-before (map whole before) (replicate (m - 1) b) last (2 ^ precision - (m - 1) * b) (uniform-weights m e) in
      subst (λ (k : ℕ). All (λ word. whole word ≡ 2 ^ precision / k) before) (uniform-many m some e)
      (same-all whole before (m - 1) b same)
