-- Reads in a row from a source that counts its items.
use Rattle.std.proofs.Common.{◌≡◌, ◌≢◌, ◌↔◌, ◌+◌, ◌≤◌, ℕ, zero, suc, List, [], ◌∷◌, Option, Some, None, Result, Ok, Err, arith}
use Rattle.std.specs.Prelude.{slice_get}
use Rattle.constriction_sources.specs.Source.{CountsRead, GivesAnswers}

-- exactly the first n of the answers are items: words, or errors in their place
abbrev HasItems : {W E : Type 0} → ℕ → List (Result (Option W) E) → Type 0
HasItems {W} {E} n answers = (k : ℕ) (r : Result (Option W) E) → slice_get answers k ≡ Some r → (r ≡ Ok None) ↔ (n ≤ k)

module _ {W E : Type 0} (m n : ℕ) (rest : List (Result (Option W) E)) (others : HasItems n rest) where
  -- an item in front of other answers
  item_before : (r : Result (Option W) E) → r ≢ Ok None → m ≡ n + 1 → HasItems m (r ∷ rest)
  item_before r item count zero a e =
      let same : r ≡ a = cc in
      (λ none. absurd (item (cc)), λ none. absurd (omega arith))
  item_before r item count (suc i) a e =
      let other : (a ≡ Ok None) ↔ (n ≤ i) = others i a e in
      (λ none. let late : n ≤ i = other.0 none in omega arith, λ late. other.1 (omega arith))

  -- an end in front of other ends
  end_before : m ≡ 0 → n ≡ 0 → HasItems {W = W} {E = E} m (Ok None ∷ rest)
  end_before before after zero a e =
      let same : a ≡ Ok None = cc in
      (λ none. omega arith, λ late. same)
  end_before before after (suc i) a e =
      let other : (a ≡ Ok None) ↔ (n ≤ i) = others i a e in
      (λ none. omega arith, λ late. other.1 (omega arith))

  -- one answer in front of others, with m items left before it and n after it
  answer_before : (r : Result (Option W) E) → CountsRead m r n → HasItems m (r ∷ rest)
  answer_before (Ok None) count = end_before count.0 count.1
  answer_before (Ok (Some w)) count = item_before (Ok (Some w)) (λ e. cc) count
  answer_before (Err x) count = item_before (Err x) (λ e. cc) count

-- the answers of reads in a row have as many items as were left
pub remaining_counted : {S W E : Type 0} (gives : S → Result (Option W) E → S → Type 0) (left : S → ℕ) (exact : S → Type 0)
    → ((s : S) (r : Result (Option W) E) (t : S) → exact s → gives s r t → CountsRead (left s) r (left t) × exact t)
    → (s : S) (answers : List (Result (Option W) E)) (t : S) → exact s → GivesAnswers gives s answers t → HasItems (left s) answers
remaining_counted gives left exact law s [] t right reads = λ k r e. absurd (cc)
remaining_counted gives left exact law s (a ∷ rest) t right (j, given, reads) =
    let one : CountsRead (left s) a (left j) × exact j = law s a j right given in
    answer_before (left s) (left j) rest (remaining_counted gives left exact law j rest t one.1 reads) a one.0
