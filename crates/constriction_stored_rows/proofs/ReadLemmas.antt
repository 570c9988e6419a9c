-- Reading rows from symbols and weights.
use Rattle.std.specs.Prelude.{◌≡◌, ℕ, ◌+◌, ◌||◌, Bool, true, false, List, [], ◌∷◌, ◌++◌, length, map, sum, Option, Some, None}
use Rattle.std.proofs.Common.{refl, ap, sym, ◌∙◌, arith, subst, inl, inr, rules, tests}
use Rattle.std.specs.List.{list_any, AllByRecursion, IsDistinct}
use Rattle.std.proofs.lemmas.List.{length-append, length_push, append_assoc}
use Rattle.std.proofs.lemmas.List.Sums.{sum_by-cons}
use Rattle.std.proofs.lemmas.Bool.{cases_Bool}
use Rattle.std.proofs.lemmas.Map.Keys.{IsDistinct-head, IsDistinct-tail, IsDistinct-cons}
use Rattle.std.specs.Iterator.{Count, IsFinite}
use Rattle.constriction_model.specs.Acceptance.{AreAccepted, IsAccepted, completed, ToItsEnd, SoFar}
use Rattle.constriction_stored_rows.specs.private.Filling.{AreNotTaken}
use Rattle.constriction_stored_rows.specs.private.Given.{GaveGood, GaveBothGood, GaveBothBad}
use Rattle.constriction_stored_rows.specs.private.Reading.{EndsBefore, TookRows}
use Rattle.constriction_model.specs.lemmas.Rows.{symbols-rows_from}
use Rattle.constriction_model.specs.Rows.{Row, rows_from, rows_of, symbols_of}
use Rattle.constriction_model.specs.lemmas.Walks.{yields-more}

-- ---- lists with two equal symbols

holds-mid : {K : Type 0} (P : K → Type 0) (xs ys : List K) (y : K) → AllByRecursion P (xs ++ y ∷ ys) → P y
holds-mid P [] ys y a = a.0
holds-mid P (x ∷ xs) ys y a = holds-mid P xs ys y a.1

-- in a list, a symbol that is equal to one before it makes two equal symbols
pub not-distinct : {K : Type 0} (eq : K → K → Bool) → ((x y : K) → eq x y ≡ eq y x) → (xs ys : List K) (y : K)
    → list_any (eq y) xs ≡ true → ¬ (IsDistinct eq (xs ++ y ∷ ys))
not-distinct eq symm [] ys y e d = search (rules, tests)
not-distinct eq symm (x ∷ xs) ys y e d =
    let apart : eq y x ≡ false = symm y x ∙ holds-mid (λ w. eq x w ≡ false) xs ys y (IsDistinct-head eq x (xs ++ y ∷ ys) d) in
    let rest : list_any (eq y) xs ≡ true = ap (λ b. b || list_any (eq y) xs) (sym apart) ∙ e in
    not-distinct eq symm xs ys y rest (IsDistinct-tail eq x (xs ++ y ∷ ys) d)

-- no symbols differ from each other
pub none-distinct : {K : Type 0} (eq : K → K → Bool) → IsDistinct eq []
unfolding IsDistinct
none-distinct eq = tt

-- ---- a list with one more symbol, which is equal to none before it

all-push : {K : Type 0} (P : K → Type 0) (xs : List K) (y : K) → AllByRecursion P xs → P y → AllByRecursion P (xs ++ y ∷ [])
all-push P [] y a p = (p, tt)
all-push P (x ∷ xs) y a p = (a.0, all-push P xs y a.1 p)

-- symbols that differ, and one that equals none of them, differ
pub distinct-push : {K : Type 0} (eq : K → K → Bool) → ((x y : K) → eq x y ≡ eq y x) → (xs : List K) (y : K) → IsDistinct eq xs
    → list_any (eq y) xs ≡ false → IsDistinct eq (xs ++ y ∷ [])
distinct-push eq symm [] y d absent = IsDistinct-cons eq y [] tt (none-distinct eq)
distinct-push eq symm (x ∷ xs) y d absent = elim (cases_Bool (eq y x)) [
  | inl same ↦
      let bad : true ≡ false = ap (λ b. b || list_any (eq y) xs) (sym same) ∙ absent in
      cc
  | inr apart ↦
      let rest : list_any (eq y) xs ≡ false = ap (λ b. b || list_any (eq y) xs) (sym apart) ∙ absent in
      IsDistinct-cons eq x (xs ++ y ∷ []) (all-push (λ w. eq x w ≡ false) xs y (IsDistinct-head eq x xs d) (symm x y ∙ apart))
      (distinct-push eq symm xs y (IsDistinct-tail eq x xs d) rest)
]

-- if symbols are not compared, none is equal to another
pub never-any : {K : Type 0} (xs : List K) → list_any (λ _. false) xs ≡ false
never-any [] = refl
never-any (x ∷ xs) = never-any xs

-- ---- one more row

-- one more symbol and weight are one more row, which begins where the rows before it end
pub rows_from-push : {S : Type 0} (l : ℕ) (ss : List S) (ws : List ℕ) (s : S) (w : ℕ) → length ss ≡ length ws
    → rows_from l (ss ++ s ∷ []) (ws ++ w ∷ []) ≡ rows_from l ss ws ++ record { symbol = s; left = l + sum ws; weight = w } ∷ []
rows_from-push l [] [] s w e = ap (λ n. record { symbol = s; left = n; weight = w } ∷ []) (let is : l ≡ l + 0 = omega arith in is)
rows_from-push l [] (v ∷ ws) s w e = absurd (omega arith)
rows_from-push l (t ∷ ss) [] s w e = absurd (omega arith)
rows_from-push l (t ∷ ss) (v ∷ ws) s w e =
    let more : l + v + sum ws ≡ l + sum (v ∷ ws) = omega (arith, sum_by-cons (λ x. x) v ws) in
    ap (λ rs. record { symbol = t; left = l; weight = v } ∷ rs)
    (rows_from-push (l + v) ss ws s w (omega arith)
    ∙ ap (λ n. rows_from (l + v) ss ws ++ record { symbol = s; left = n; weight = w } ∷ []) more)

-- ---- symbols that are read for the rows of weights

module _ {S Symbol Stored : Type 0} {steps : S → Option Symbol → S → Type 0} {Goes : S → Type 0} {remaining : S → Count}
    {eq : Symbol → Symbol → Bool} (holds : Stored → List (Row Symbol) → Type 0) {it u : S} {weights : List ℕ} {stored : Stored}
    (symm : (s t : Symbol) → eq s t ≡ eq t s) (r : TookRows steps Goes remaining eq (holds stored) it weights u) where
  -- the symbols of the rows are the symbols that were read
  apart-read : (s : Symbol) (b : Bool) → list_any (eq s) (symbols_of (rows_of r.symbols weights)) ≡ b → list_any (eq s) r.symbols ≡ b
  apart-read s b h = ap (list_any (eq s)) (sym (symbols-rows_from 0 r.symbols weights r.as_many)) ∙ h

  -- one more symbol, and one more row
  pub read-more : (stored' : Stored) (u' : S) (s : Symbol) (left weight : ℕ) → left ≡ sum weights → steps u (Some s) u'
      → ((rows : List (Row Symbol)) → holds stored rows
      → holds stored' (rows ++ record { symbol = s; left = left; weight = weight } ∷ []))
      → ((rows : List (Row Symbol)) → holds stored rows → list_any (eq s) (symbols_of rows) ≡ false)
      → Goes u' × IsFinite (remaining u')
      → TookRows steps Goes remaining eq (holds stored') it (weights ++ weight ∷ []) u'
  read-more stored' u' s left weight is came held apart goes = record {
    symbols = r.symbols ++ s ∷ [];
    given = yields-more steps it r.symbols u s u' r.given came;
    as_many = omega (arith, r.as_many, length_push r.symbols s, length_push weights weight);
    distinct = distinct-push eq symm r.symbols s r.distinct (apart-read s false (apart (rows_of r.symbols weights) r.held));
    held =
        let sums : left ≡ 0 + sum weights = omega (arith, is) in
        rw (rows_from-push 0 r.symbols weights s weight r.as_many, ← sums) (held (rows_of r.symbols weights) r.held);
    goes = goes.0;
    ends = goes.1;
  }

  -- no symbol for one more row
  pub ended-none : (u' : S) → steps u None u' → EndsBefore steps eq it (length weights + 1)
  ended-none u' none = (
    r.symbols,
    ToItsEnd,
    (u', (u, r.given, none)),
    λ all a many d.
        let few : length all ≡ length r.symbols = ap length a in
        omega (arith, few, many, r.as_many),
  )

  -- a symbol that is equal to one before it
  pub ended-again : (u' : S) (s : Symbol) → steps u (Some s) u'
      → ((rows : List (Row Symbol)) → holds stored rows → list_any (eq s) (symbols_of rows) ≡ true)
      → EndsBefore steps eq it (length weights + 1)
  ended-again u' s came again = (
    r.symbols ++ s ∷ [],
    SoFar,
    (u', yields-more steps it r.symbols u s u' r.given came),
    λ all a many d.
        let is : all ≡ r.symbols ++ s ∷ a.0 = a.1 ∙ append_assoc r.symbols (s ∷ []) a.0 in
        not-distinct eq symm r.symbols a.0 s (apart-read s true (again (rows_of r.symbols weights) r.held)) (subst (IsDistinct eq) is d),
  )

abbrev AreGood : {Symbol W : Type 0} → (Symbol → Symbol → Bool) → (W → ℕ) → ℕ → ℕ → Bool → List Symbol → List W → Type 0
AreGood eq whole bits precision infer ss ws = AreAccepted eq bits precision ss (completed precision infer (map whole ws))

module _ {S T Symbol W : Type 0} (wsteps : T → Option W → T → Type 0) (whole : W → ℕ) (infer : Bool)
    {steps : S → Option Symbol → S → Type 0} {Goes : S → Type 0} {remaining : S → Count} {eq : Symbol → Symbol → Bool}
    {bits precision : ℕ} {it : S} {jt : T} where
  -- weights that were not taken are not accepted, with these symbols
  pub bad-taken : {Now : Type 0} (u : Now → S) (Held : Now → List (Row Symbol) → Type 0)
      → AreNotTaken wsteps jt whole bits precision infer (λ ws t. TookRows steps Goes remaining eq (Held t) it ws (u t))
      (EndsBefore steps eq it)
      → GaveBothBad steps it wsteps jt (AreGood eq whole bits precision infer)
  bad-taken u Held why = elim why [
    | inl bad ↦
        let read = bad.3 in
        elim bad.0 [
          | inl all_given ↦ (
            read.symbols,
            all_given.0,
            SoFar,
            ToItsEnd,
            (u bad.2, read.given),
            all_given.1,
            λ all others a b good.
                all_given.2 (subst (λ xs. IsAccepted bits precision (completed precision infer (map whole xs))) b good.tile),
          )
          | inr begun ↦ (
            read.symbols,
            begun.0,
            SoFar,
            SoFar,
            (u bad.2, read.given),
            (begun.1, begun.2),
            λ all others a b good.
                begun.3 b.0 (subst (λ xs. IsAccepted bits precision (completed precision infer (map whole xs))) b.1 good.tile),
          )
        ]
    | inr ended ↦
        let before = ended.1 in (
          before.0,
          ended.2,
          before.1,
          ended.3,
          before.2,
          ended.4,
          λ all others a b good. before.3 all a (omega (arith, ended.5 others b, good.as_many)) good.distinct,
        )
  ]

  module _ (Held : List (Row Symbol) → Type 0) (u u' : S)
      (t : GaveGood wsteps jt (λ ws. IsAccepted bits precision (completed precision infer (map whole ws))
      × TookRows steps Goes remaining eq Held it (completed precision infer (map whole ws)) u)) where
    -- one more symbol than weights
    pub bad-many : (s : Symbol) → steps u (Some s) u' → GaveBothBad steps it wsteps jt (AreGood eq whole bits precision infer)
    bad-many s came =
        let read = t.2.1 in (
          read.symbols ++ s ∷ [],
          t.0,
          SoFar,
          ToItsEnd,
          (u', yields-more steps it read.symbols u s u' read.given came),
          t.1,
          λ all others a b good.
              let long : length all ≡ length read.symbols + 1 + length a.0 =
              ap length a.1 ∙ length-append (read.symbols ++ s ∷ []) a.0 ∙ ap (λ n. n + length a.0) (length_push read.symbols s) in
              let same : length (completed precision infer (map whole others)) ≡ length (completed precision infer (map whole t.0)) =
              ap (λ xs. length (completed precision infer (map whole xs))) b in
              omega (arith, long, same, good.as_many, read.as_many),
        )

    -- as many symbols as weights
    pub good-taken : steps u None u'
        → GaveBothGood steps it wsteps jt
        (λ ss ws. AreGood eq whole bits precision infer ss ws × Held (rows_of ss (completed precision infer (map whole ws))))
    good-taken end =
        let read = t.2.1 in (
          read.symbols,
          t.0,
          (u', (u, read.given, end)),
          t.1,
          (record { tile = t.2.0; as_many = read.as_many; distinct = read.distinct }, read.held),
        )
