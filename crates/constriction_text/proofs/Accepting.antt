-- Which weights are accepted, and that a model of narrowed weights is a model of the weights.
use Rattle.std.proofs.Common.{refl, subst, ◌≡◌, ℕ, ◌-◌, ◌^◌, ◌<◌, ◌≤◌, Bool, true, false, ◌&&◌, cond, eqb, List, [], ◌∷◌, ◌++◌, Option, None, ap, sym, ◌∙◌, length, get_or, take, drop, map, sum, arith, nat_lt, All, take-append-drop}
use Rattle.std.specs.Iterator.{Drains, Yields}
use Rattle.std.specs.List.{list_all}
use Rattle.std.proofs.Math.Nat.{pow-le-pow_right}
use Rattle.std.proofs.lemmas.Bool.{ltb-true, lt-ltb, eqb-true, eq-eqb, and_parts, and_from, false_from_ne_true}
use Rattle.std.proofs.lemmas.Iterator.{YieldsList}
use Rattle.std.proofs.lemmas.Iterator.Consumers.{YieldsList-so_far, YieldsList-end}
use Rattle.std.proofs.Math.Seq.{take-append_seam}
use Rattle.std.proofs.lemmas.List.{map-append}
use Rattle.std.proofs.lemmas.List.Elements.{All-head, All-tail, All-drop, All-take}
use Rattle.std.proofs.lemmas.List.Sums.{AllPass-from_list_all, list_all-from_AllPass}
use Rattle.constriction_model.specs.Acceptance.{IsAccepted, completed, Reading, ToItsEnd, SoFar, WasReadOf, MayGive}
use Rattle.constriction_text.specs.private.NumberWords.{narrowed_to}
use Rattle.constriction_text.specs.private.Answering.{are_accepted}

-- ---- the test and what it tests

module _ (bits precision : ℕ) where
  -- whether a weight is positive and a word
  abbrev is_weight : ℕ → Bool
  is_weight weight = nat_lt 0 weight && nat_lt weight (2 ^ bits)

  -- weights that the sum finds accepted are accepted
  pub are_accepted-to : (weights : List ℕ) → are_accepted bits precision weights ≡ true → IsAccepted bits precision weights
  are_accepted-to weights e =
      let parts = and_parts (list_all is_weight weights) (eqb (sum weights) (2 ^ precision)) e in
      let each = AllPass-from_list_all is_weight weights parts.0 in
      let at =
      λ (k d : ℕ) (h : k < length weights). and_parts (nat_lt 0 (get_or weights k d))
      (nat_lt (get_or weights k d) (2 ^ bits)) (each k d h) in
      record {
        tiles = record {
          positive = λ k d h. ltb-true 0 (get_or weights k d) (at k d h).0;
          total = eqb-true (sum weights) (2 ^ precision) parts.1;
        };
        fit = λ k d h. ltb-true (get_or weights k d) (2 ^ bits) (at k d h).1;
      }

  -- the sum finds accepted weights accepted
  pub are_accepted-from : (weights : List ℕ) → IsAccepted bits precision weights → are_accepted bits precision weights ≡ true
  are_accepted-from weights h =
      and_from (list_all is_weight weights) (eqb (sum weights) (2 ^ precision))
      (list_all-from_AllPass is_weight weights (λ k d l.
      and_from (nat_lt 0 (get_or weights k d)) (nat_lt (get_or weights k d) (2 ^ bits))
      (lt-ltb 0 (get_or weights k d) (h.tiles.positive k d l)) (lt-ltb (get_or weights k d) (2 ^ bits) (h.fit k d l))))
      (eq-eqb (sum weights) (2 ^ precision) h.tiles.total)

-- ---- narrowed weights

narrowed_positive : (bits number : ℕ) (fits : Bool) → 0 < cond fits number 0 → cond fits number 0 ≡ number
narrowed_positive bits number true h = refl
narrowed_positive bits number false h = absurd (omega arith)

-- a number below 2 ^ precision is a word, so narrowing keeps it
pub narrowed_same : (bits precision number : ℕ) → precision ≤ bits → number < 2 ^ precision → narrowed_to bits number ≡ number
narrowed_same bits precision number le below =
    let more : 2 ^ precision ≤ 2 ^ bits = pow-le-pow_right {n = 2} (omega arith) le in
    ap (λ b. cond b number 0) (lt-ltb number (2 ^ bits) (omega arith))

-- if no narrowed weight is 0, the narrowed weights are the weights
all_positive : (bits : ℕ) (weights : List ℕ) → All (λ w. 0 < w) (map (narrowed_to bits) weights)
    → map (narrowed_to bits) weights ≡ weights
all_positive bits [] h = refl
all_positive bits (w ∷ ws) h =
    let first = All-head (λ w. 0 < w) (narrowed_to bits w) (map (narrowed_to bits) ws) h in
    let others = All-tail (λ w. 0 < w) (narrowed_to bits w) (map (narrowed_to bits) ws) h in
    ap (λ x. x ∷ map (narrowed_to bits) ws) (narrowed_positive bits w (nat_lt w (2 ^ bits)) first)
    ∙ ap (λ xs. w ∷ xs) (all_positive bits ws others)

-- words are their own narrowed numbers
all_words : (bits : ℕ) (weights : List ℕ) → All (λ w. w < 2 ^ bits) weights → map (narrowed_to bits) weights ≡ weights
all_words bits [] h = refl
all_words bits (w ∷ ws) h =
    ap (λ b. cond b w 0 ∷ map (narrowed_to bits) ws) (lt-ltb w (2 ^ bits) (All-head (λ w. w < 2 ^ bits) w ws h))
    ∙ ap (λ xs. w ∷ xs) (all_words bits ws (All-tail (λ w. w < 2 ^ bits) w ws h))

-- numbers that fit have words with these numbers
words_for : {Word : Type 0} (whole : Word → ℕ) (word_of : ℕ → Word) (bits : ℕ)
    → ((n : ℕ) → n < 2 ^ bits → whole (word_of n) ≡ n)
    → (numbers : List ℕ) → All (λ n. n < 2 ^ bits) numbers → map whole (map word_of numbers) ≡ numbers
words_for whole word_of bits law [] h = refl
words_for whole word_of bits law (n ∷ ns) h =
    ap (λ x. x ∷ map whole (map word_of ns)) (law n (All-head (λ n. n < 2 ^ bits) n ns h))
    ∙ ap (λ xs. n ∷ xs) (words_for whole word_of bits law ns (All-tail (λ n. n < 2 ^ bits) n ns h))

-- what holds of completed weights holds of the given ones
given_hold : (P : ℕ → Type 0) (precision : ℕ) (infer : Bool) (weights : List ℕ) → All P (completed precision infer weights)
    → All P weights
given_hold P precision true weights h =
    subst (All P) (take-append_seam weights _) (All-take P (length weights) (weights ++ (2 ^ precision - sum weights) ∷ []) h)
given_hold P precision false weights h = h

-- ---- what an iterator of narrowed weights gave

module _ {J S Word : Type 0} (becomes : J → S → Type 0) (steps : S → Option Word → S → Type 0) (from : J) (whole : Word → ℕ)
    (bits precision : ℕ) (infer : Bool) (weights : List ℕ) where
  -- the numbers, completed, are accepted
  abbrev Good : List ℕ → Type 0
  Good numbers = IsAccepted bits precision (completed precision infer numbers)

  -- whichever iterator it becomes, it gives the narrowed weights
  abbrev GivesNarrowed : Type 0
  GivesNarrowed = (it : S) → becomes from it → YieldsList steps whole it (map (narrowed_to bits) weights)

  -- all that was read is the narrowed weights
  read_all : (words : List Word) → WasReadOf becomes steps from ToItsEnd words → GivesNarrowed
      → map whole words ≡ map (narrowed_to bits) weights
  read_all words read gives =
      let d : Drains steps read.iterator words = read.was_read in
      (YieldsList-end (gives read.iterator read.became) words d.1.0 d.1.1 None d.0 refl d.1.2).0

  -- if what was read is good, it is the weights
  pub good_read : (words : List Word) → WasReadOf becomes steps from ToItsEnd words → Good (map whole words) → GivesNarrowed
      → map whole words ≡ weights
  good_read words read good gives =
      let narrow : Good (map (narrowed_to bits) weights) = subst Good (read_all words read gives) good in
      read_all words read gives
      ∙ all_positive bits weights (given_hold (λ w. 0 < w) precision infer (map (narrowed_to bits) weights) narrow.tiles.positive)

  -- words that may be given in all are the weights, if each weight is a word
  all_given : (word_of : ℕ → Word) → ((n : ℕ) → n < 2 ^ bits → whole (word_of n) ≡ n)
      → (words : List Word) (reading : Reading) → WasReadOf becomes steps from reading words → GivesNarrowed
      → All (λ w. w < 2 ^ bits) weights → (all : List Word) × MayGive reading words all × (map whole all ≡ weights)
  all_given word_of law words ToItsEnd read gives fit = (words, refl, read_all words read gives ∙ all_words bits weights fit)
  all_given word_of law words SoFar read gives fit =
      let n = length words in
      let some : (t : S) × Yields steps read.iterator words t = read.was_read in
      let front : map whole words ≡ take n weights =
      YieldsList-so_far (gives read.iterator read.became) words some.0 some.1 ∙ ap (take n) (all_words bits weights fit) in
      let more = map word_of (drop n weights) in
      let back : map whole more ≡ drop n weights =
      words_for whole word_of bits law (drop n weights) (All-drop (λ w. w < 2 ^ bits) n weights fit) in (
        words ++ more,
        (more, refl),
        map-append whole words more ∙ ap (λ xs. xs ++ map whole more) front
            ∙ ap (λ xs. take n weights ++ xs) back ∙ take-append-drop n weights,
      )

  -- if nothing good begins with what was read, the weights are not accepted
  pub bad_read : (word_of : ℕ → Word) → ((n : ℕ) → n < 2 ^ bits → whole (word_of n) ≡ n)
      → (words : List Word) (reading : Reading) → WasReadOf becomes steps from reading words
      → ((all : List Word) → MayGive reading words all → ¬ (Good (map whole all))) → GivesNarrowed
      → are_accepted bits precision (completed precision infer weights) ≡ false
  bad_read word_of law words reading read never gives =
      false_from_ne_true (are_accepted bits precision (completed precision infer weights)) (λ e.
      let good : Good weights = are_accepted-to bits precision (completed precision infer weights) e in
      let all =
      all_given word_of law words reading read gives (given_hold (λ w. w < 2 ^ bits) precision infer weights good.fit) in
      never all.0 all.1 (subst Good (sym all.2) good))
