-- Words as a number: one word more, a carry, and powers of the base.
use Rattle.std.proofs.Common.{◌≡◌, ℕ, suc, zero, ◌+◌, ◌-◌, ◌*◌, ◌^◌, ◌<◌, ◌≤◌, List, [], ◌∷◌, ◌++◌, length, get_or, refl, ap, sym, ◌∙◌}
use Rattle.std.proofs.Common.{arith, inl, inr}
use Rattle.std.proofs.lemmas.Bool.{cases_eq, cases_lt}
use Rattle.std.proofs.lemmas.List.{get_or_append_left, get_or_push, get_or_past, length_push}
use Rattle.std.proofs.lemmas.Nat.{pow-add}
use Rattle.std.specs.Prelude.{All}
use Rattle.constriction_coders.specs.Numbers.{number_first, number_of}

-- a word more is 32 bits more
pub word-more : (k : ℕ) → 2 ^ (32 * (k + 1)) ≡ 2 ^ (32 * k) * 2 ^ 32
word-more k =
    let sum : 32 * (k + 1) ≡ 32 * k + 32 = omega arith in
    ap (λ n. 2 ^ n) sum ∙ pow-add 2 (32 * k) 32

-- two words more have 64 bits more
pub two-words-more : (k : ℕ) → 2 ^ (32 * (k + 2)) ≡ 2 ^ (32 * k) * 2 ^ 64
two-words-more k =
    let sum : 32 * (k + 2) ≡ 32 * k + 64 = omega arith in
    ap (λ n. 2 ^ n) sum ∙ pow-add 2 (32 * k) 64

-- words after the first k do not count
pub first-append : (k : ℕ) (words more : List ℕ) → k ≤ length words → number_first k (words ++ more) ≡ number_first k words
first-append zero words more h = refl
first-append (suc k) words more h =
    omega (arith, first-append k words more (omega arith), get_or_append_left words more 0 k (omega arith))

-- the number of one word more
pub first-more : (k : ℕ) (words : List ℕ) → number_first (k + 1) words ≡ number_first k words * 2 ^ 32 + get_or words k 0
first-more k words =
    let next : k + 1 ≡ suc k = omega arith in
    ap (λ n. number_first n words) next

-- the same at the end of a list
pub number-push : (words : List ℕ) (word : ℕ) → number_of (words ++ word ∷ []) ≡ number_of words * 2 ^ 32 + word
number-push words word =
    let long : length (words ++ word ∷ []) ≡ length words + 1 = length_push words word in
    let front = first-append (length words) words (word ∷ []) (omega arith) in
    let last : get_or (words ++ word ∷ []) (length words) 0 ≡ word = get_or_push words word 0 (length words) refl in
    let all : number_first (length words + 1) (words ++ word ∷ []) ≡ number_of words * 2 ^ 32 + word =
    omega (arith, first-more (length words) (words ++ word ∷ []), front, last) in
    ap (λ n. number_first n (words ++ word ∷ [])) long ∙ all

-- a word of words, or the 0 of one that is missing, is below 2 ^ 32
pub word-fits : (words : List ℕ) → All (λ w. w < 2 ^ 32) words → (k : ℕ) → get_or words k 0 < 2 ^ 32
word-fits words fit k =
    elim (cases_lt k (length words)) [
      | inl h ↦ fit k 0 h
      | inr h ↦ let none : get_or words k 0 ≡ 0 = get_or_past words k 0 h in omega (arith, none)
    ]

-- ---- a carry

module _ (old new : List ℕ) (place : ℕ) (front : (j : ℕ) → j < place → get_or new j 0 ≡ get_or old j 0) where
  same-front : (k : ℕ) → k ≤ place → number_first k new ≡ number_first k old
  same-front zero h = refl
  same-front (suc k) h = omega (arith, same-front k (omega arith), front k (omega arith))

  -- one word is raised, and the words after it, which were full, are cleared
  pub carried : (top : ℕ) → get_or new place 0 ≡ get_or old place 0 + 1
      → ((j : ℕ) → place < j → j < top → get_or old j 0 ≡ 2 ^ 32 - 1) → ((j : ℕ) → place < j → j < top → get_or new j 0 ≡ 0)
      → (n : ℕ) → place < n → n ≤ top → number_first n new ≡ number_first n old + 1
  carried top more full cleared zero h l = absurd (omega arith)
  carried top more full cleared (suc n) h l =
      elim (cases_eq n place) [
        | inl same ↦ let here : get_or new n 0 ≡ get_or old n 0 + 1 = rw same more in
            omega (arith, same-front n (omega arith), here)
        | inr other ↦ omega (
          arith,
          carried top more full cleared n (omega arith) (omega arith),
          full n (omega arith) (omega arith),
          cleared n (omega arith) (omega arith),
        )
      ]

-- if all words are full, no number of as many words is greater
pub all-full : (words : List ℕ) (n : ℕ) → ((j : ℕ) → j < n → get_or words j 0 ≡ 2 ^ 32 - 1) → number_first n words + 1 ≡ 2 ^ (32 * n)
all-full words zero full = refl
all-full words (suc n) full =
    let next : n + 1 ≡ suc n = omega arith in
    let power : 2 ^ (32 * suc n) ≡ 2 ^ (32 * n) * 2 ^ 32 = ap (λ k. 2 ^ (32 * k)) (sym next) ∙ word-more n in
    omega (arith, all-full words n (λ j h. full j (omega arith)), full n (omega arith), power)
