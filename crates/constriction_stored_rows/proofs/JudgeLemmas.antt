-- Whether a list is a cdf.
use Rattle.std.specs.Prelude.{◌≡◌, ℕ, ◌+◌, ◌-◌, ◌^◌, ◌<◌, ◌≤◌, ◌⊎◌, List, [], ◌∷◌, ◌++◌, length, sum, take, All}
use Rattle.std.proofs.Common.{refl, ap, sym, ◌∙◌, arith, get_or, add-one, inl, inr}
use Rattle.std.proofs.lemmas.List.{take_all, take_more}
use Rattle.std.proofs.lemmas.List.Elements.{All-push, All-from_get_or}
use Rattle.std.proofs.lemmas.List.Sums.{sum_by_push, get_or-le-sum_by}
use Rattle.constriction_model.specs.Acceptance.{IsAccepted}
use Rattle.constriction_stored_rows.specs.Stored.{lefts_from, IsStored}
use Rattle.constriction_stored_rows.specs.lemmas.Stored.{stored-of, stored-row, stored-some}
use Rattle.constriction_stored_rows.proofs.FillLemmas.{lefts_from-push}

-- the numbers are the left cumulatives of rows of these weights, and of a next row, which begins at `before`
pub record AreBegun (numbers weights : List ℕ) (before : ℕ) : Type 0 where
  pub positive : All (λ w. 0 < w) weights
  pub lefts : numbers ≡ lefts_from 0 weights ++ sum weights ∷ []
  pub next : before ≡ sum weights

-- one more left cumulative, greater than the one before it
pub begun-next : (first : ℕ) (rest weights : List ℕ) (i before left : ℕ) → AreBegun (first ∷ take i rest) weights before
    → i < length rest → get_or rest i 0 ≡ left → before < left
    → AreBegun (first ∷ take (i + 1) rest) (weights ++ (left - before) ∷ []) left
begun-next first rest weights i before left t here is more =
    let total : sum (weights ++ (left - before) ∷ []) ≡ sum weights + (left - before) = sum_by_push (λ x. x) weights (left - before) in
    let end : sum (weights ++ (left - before) ∷ []) ≡ left = omega (arith, total, t.next) in
    let e : 0 + sum weights ≡ sum weights = omega arith in
    record {
      positive = All-push (λ w. 0 < w) weights (left - before) t.positive (omega arith);
      lefts =
          ap (λ xs. first ∷ xs) (take_more rest i 0 here) ∙ ap (λ n. (first ∷ take i rest) ++ n ∷ []) is
          ∙ ap (λ xs. xs ++ left ∷ []) (t.lefts ∙ ap (λ n. lefts_from 0 weights ++ n ∷ []) (sym e)
          ∙ sym (lefts_from-push 0 weights (left - before)))
          ∙ ap (λ n. lefts_from 0 (weights ++ (left - before) ∷ []) ++ n ∷ []) (sym end);
      next = sym end;
    }

module _ (bits precision : ℕ) where
  -- the last row takes what is left
  begun-stored : (numbers weights : List ℕ) (before room : ℕ) → 2 ^ precision ≤ 2 ^ bits → AreBegun numbers weights before
      → before + room + 1 ≡ 2 ^ precision → room + 1 < 2 ^ bits → IsStored bits precision numbers
  begun-stored numbers weights before room wide t rest fits =
      let total : sum (weights ++ (room + 1) ∷ []) ≡ sum weights + (room + 1) = sum_by_push (λ x. x) weights (room + 1) in
      let each : All (λ x. x < 2 ^ bits) weights =
      All-from_get_or (λ x. x < 2 ^ bits) weights 0
      (λ i h. omega (arith, get_or-le-sum_by (λ x. x) weights i 0 h, t.next, rest)) in
      let accepted : IsAccepted bits precision (weights ++ (room + 1) ∷ []) = record {
        tiles =
            record {
              positive = All-push (λ x. 0 < x) weights (room + 1) t.positive (omega arith);
              total = omega (arith, total, t.next, rest);
            };
        fit = All-push (λ x. x < 2 ^ bits) weights (room + 1) each fits;
      } in
      let e : 0 + sum weights ≡ sum weights = omega arith in
      (stored-of bits precision numbers (weights ++ (room + 1) ∷ [])
      (t.lefts ∙ ap (λ n. lefts_from 0 weights ++ n ∷ []) (sym e) ∙ sym (lefts_from-push 0 weights (room + 1)))
      accepted).0

  -- no numbers store no rows
  pub not_stored-empty : (numbers : List ℕ) → length numbers ≡ 0 → ¬ (IsStored bits precision numbers)
  not_stored-empty numbers e t = omega (arith, e, stored-some bits precision numbers t)

  module _ (numbers rest : List ℕ) (first i before : ℕ) (split : numbers ≡ first ∷ rest) (here : get_or (first ∷ rest) i 0 ≡ before) where
    -- a left cumulative that is not greater than the one before it
    pub not_stored-next : (left : ℕ) → i < length rest → get_or rest i 0 ≡ left → left ≤ before → ¬ (IsStored bits precision numbers)
    not_stored-next left more is less =
        rw split (λ t.
        let row = stored-row bits precision (first ∷ rest) i t (omega arith) in
        let next : get_or (first ∷ rest) (i + 1) 0 ≡ get_or rest i 0 = rw add-one refl in
        omega (arith, row.next (omega arith), row.positive, here, next, is))

    -- the last row takes at least one quantile, and no more than a word can tell
    pub not_stored-end : i ≡ length rest → (2 ^ precision ≤ before) ⊎ (2 ^ bits + before ≤ 2 ^ precision)
        → ¬ (IsStored bits precision numbers)
    not_stored-end end why =
        rw split (λ t.
        let row = stored-row bits precision (first ∷ rest) i t (omega arith) in
        let all = row.last (omega arith) in
        elim why [ inl none ↦ omega (arith, all, row.positive, here, none) | inr much ↦ omega (arith, all, row.fits, here, much) ])

    -- numbers whose last weight is a word store rows
    pub stored-end : (weights : List ℕ) (room : ℕ) → 2 ^ precision ≤ 2 ^ bits → AreBegun (first ∷ take i rest) weights before
        → i ≡ length rest → before + room + 1 ≡ 2 ^ precision → room + 1 < 2 ^ bits → IsStored bits precision numbers
    stored-end weights room wide t end left fits =
        rw split (begun-stored (first ∷ rest) weights before room wide
        (let all : take i rest ≡ rest = take_all i rest (omega arith) in rw all at t) left fits)
