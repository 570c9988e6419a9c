-- Rows and answers whose symbols stand for the symbols of other rows, as clones do. They tile if those rows do, are those rows if clones
-- are the same values, and have their entries if clones are equal to their originals.
use Rattle.std.specs.Prelude.{◌≡◌, ℕ, ◌+◌, Bool, false, List, [], ◌∷◌, ◌++◌, map}
use Rattle.std.specs.Cmp.{IsEquivalence}
use Rattle.std.specs.List.{AllZip, AllByRecursion, IsDistinct}
use Rattle.std.specs.Option.{option_or}
use Rattle.std.proofs.Common.{Some, None, cond, refl, ap, sym, ◌∙◌, subst}
use Rattle.std.proofs.lemmas.List.{length-map, map-append}
use Rattle.std.proofs.lemmas.Map.Keys.{IsDistinct-head, IsDistinct-tail, IsDistinct-cons}
use Rattle.constriction_model.specs.Acceptance.{AreAccepted, IsAccepted}
use Rattle.constriction_model.specs.Entries.{SameEntries, HoldsEntriesOf}
use Rattle.constriction_model.specs.Model.{row_of, StandsForRow, AnswersQuantile, StandForRows, ClonesRepeat, ClonesAreSame, ClonesAreEqual}
use Rattle.constriction_model.specs.lemmas.Rows.{entry_of-cons}
use Rattle.constriction_model.specs.Rows.{Row, RowsTile, IsRowOf, rows_from, rows_of, entry_of, symbols_of}

-- ---- beginnings of a list with no two equal symbols

all-begin : {K : Type 0} (P : K → Type 0) (xs ys : List K) → AllByRecursion P (xs ++ ys) → AllByRecursion P xs
all-begin P [] ys a = tt
all-begin P (x ∷ xs) ys a = (a.0, all-begin P xs ys a.1)

distinct-none : {K : Type 0} (eq : K → K → Bool) → IsDistinct eq []
unfolding IsDistinct
distinct-none eq = tt

pub distinct-begin : {K : Type 0} (eq : K → K → Bool) (xs ys : List K) → IsDistinct eq (xs ++ ys) → IsDistinct eq xs
distinct-begin eq [] ys d = distinct-none eq
distinct-begin eq (x ∷ xs) ys d =
    IsDistinct-cons eq x xs (all-begin (λ y. eq x y ≡ false) xs ys (IsDistinct-head eq x (xs ++ ys) d))
    (distinct-begin eq xs ys (IsDistinct-tail eq x (xs ++ ys) d))

-- ---- what rows share with the rows that they stand for

module _ {Symbol : Type 0} (Stands : Symbol → Symbol → Type 0) where
  pub weights-made : (made rows : List (Row Symbol)) → StandForRows Stands made rows
      → map (λ r. r.weight) made ≡ map (λ r. r.weight) rows
  weights-made [] [] h = refl
  weights-made [] (r ∷ rs) h = absurd h
  weights-made (m ∷ ms) [] h = absurd h
  weights-made (m ∷ ms) (r ∷ rs) h =
      ap (λ n. n ∷ map (λ x. x.weight) ms) h.0.2 ∙ ap (λ ns. r.weight ∷ ns) (weights-made ms rs h.1)

  -- rows that stand for others have their left cumulatives
  pub lefts-made : (made rows : List (Row Symbol)) → StandForRows Stands made rows
      → map (λ r. r.left) made ≡ map (λ r. r.left) rows
  lefts-made [] [] h = refl
  lefts-made [] (r ∷ rs) h = absurd h
  lefts-made (m ∷ ms) [] h = absurd h
  lefts-made (m ∷ ms) (r ∷ rs) h =
      ap (λ n. n ∷ map (λ x. x.left) ms) h.0.1 ∙ ap (λ ns. r.left ∷ ns) (lefts-made ms rs h.1)

  pub symbols-stand : (made rows : List (Row Symbol)) → StandForRows Stands made rows
      → AllZip (λ t s. Stands s t) (symbols_of made) (symbols_of rows)
  symbols-stand [] [] h = tt
  symbols-stand [] (r ∷ rs) h = h
  symbols-stand (m ∷ ms) [] h = h
  symbols-stand (m ∷ ms) (r ∷ rs) h = (h.0.0, symbols-stand ms rs h.1)

  one-row-made : (l : ℕ) (m : Row Symbol) → m.left ≡ l → m ≡ record { symbol = m.symbol; left = l; weight = m.weight }
  one-row-made l m e = ap (λ n. record { symbol = m.symbol; left = n; weight = m.weight }) e

  rows-made : (l : ℕ) (made rows : List (Row Symbol)) → StandForRows Stands made rows
      → map (λ r. r.left) rows ≡ map (λ r. r.left) (rows_from l (symbols_of rows) (map (λ r. r.weight) rows))
      → made ≡ rows_from l (symbols_of made) (map (λ r. r.weight) made)
  rows-made l [] rows h e = refl
  rows-made l (m ∷ ms) [] h e = absurd h
  rows-made l (m ∷ ms) (r ∷ rs) h e =
      let first : r.left ≡ l = cc in
      let rest : map (λ x. x.left) rs ≡ map (λ x. x.left) (rows_from (l + r.weight) (symbols_of rs) (map (λ x. x.weight) rs)) = cc in
      let later : ms ≡ rows_from (l + m.weight) (symbols_of ms) (map (λ x. x.weight) ms) =
      subst (λ (n : ℕ). ms ≡ rows_from (l + n) (symbols_of ms) (map (λ x. x.weight) ms)) (sym h.0.2)
      (rows-made (l + r.weight) ms rs h.1 rest) in
      ap (λ z. z ∷ ms) (one-row-made l m (h.0.1 ∙ first))
      ∙ ap (λ zs. record { symbol = m.symbol; left = l; weight = m.weight } ∷ zs) later

  -- they tile if those do
  pub tile-made : (bits precision : ℕ) (made rows : List (Row Symbol)) → StandForRows Stands made rows → RowsTile bits precision rows
      → RowsTile bits precision made
  tile-made bits precision made rows h tile = record {
    accepted = subst (λ (ws : List ℕ). IsAccepted bits precision ws) (sym (weights-made made rows h)) tile.accepted;
    in_order = rows-made 0 made rows h (ap (map (λ r. r.left)) tile.in_order);
  }

-- ---- what an answer that stands for a row says of it

module _ {Symbol Word Weight : Type 0} (Stands : Symbol → Symbol → Type 0) (whole : Word → ℕ) (base : Weight → Word)
    (x : Symbol × Word × Weight) (r : Row Symbol) (h : StandsForRow Stands whole base x r) where
  -- its symbol stands for the row's
  pub its-symbol : Stands r.symbol x.0
  its-symbol = subst (λ (t : Row Symbol). Stands t.symbol x.0) h.2 h.1

  -- its left cumulative is the row's
  pub its-left : whole x.1 ≡ r.left
  its-left = ap (λ (t : Row Symbol). t.left) h.2

  -- its weight is the row's
  pub its-weight : whole (base x.2) ≡ r.weight
  its-weight = ap (λ (t : Row Symbol). t.weight) h.2

-- ---- if clones are the same values

module _ {Symbol : Type 0} (Stands : Symbol → Symbol → Type 0) (same : ClonesAreSame Stands) where
  same-one : (m r : Row Symbol) → Stands r.symbol m.symbol → m.left ≡ r.left → m.weight ≡ r.weight → m ≡ r
  same-one m r s l w =
      ap (λ t. record { symbol = t; left = m.left; weight = m.weight }) (same r.symbol m.symbol s)
      ∙ ap (λ n. record { symbol = r.symbol; left = n; weight = m.weight }) l
      ∙ ap (λ n. record { symbol = r.symbol; left = r.left; weight = n }) w

  -- rows that stand for others are these
  pub same-rows : (made rows : List (Row Symbol)) → StandForRows Stands made rows → made ≡ rows
  same-rows [] [] h = refl
  same-rows [] (r ∷ rs) h = absurd h
  same-rows (m ∷ ms) [] h = absurd h
  same-rows (m ∷ ms) (r ∷ rs) h =
      ap (λ z. z ∷ ms) (same-one m r h.0.0 h.0.1 h.0.2) ∙ ap (λ zs. r ∷ zs) (same-rows ms rs h.1)

  module _ {Word Weight : Type 0} (whole : Word → ℕ) (base : Weight → Word) where
    -- an answer that stands for a row is this row
    pub same-answer : (x : Symbol × Word × Weight) (r : Row Symbol) → StandsForRow Stands whole base x r → row_of whole base x ≡ r
    same-answer x r h = ap (λ s. row_of whole base (s, x.1, x.2)) (same h.0 x.0 h.1) ∙ h.2

    -- an answer to a quantile is the quantile's row
    pub exact-row : (rows : List (Row Symbol)) (q : ℕ) (x : Symbol × Word × Weight) → AnswersQuantile Stands whole base rows q x
        → IsRowOf rows q (row_of whole base x)
    exact-row rows q x h =
        subst (λ (s : Symbol). IsRowOf rows q (row_of whole base (s, x.1, x.2))) (sym (same h.0 x.0 h.1)) h.2

-- ---- if clones are equal to their originals

-- clones that are the same values are equal to their originals
pub same-equal : {Symbol : Type 0} (eq : Symbol → Symbol → Bool) → IsEquivalence eq → (Stands : Symbol → Symbol → Type 0)
    → ClonesAreSame Stands → ClonesAreEqual eq Stands
same-equal eq laws Stands same = λ x y h. ap (λ z. eq x z) (same x y h) ∙ laws.refl x

module _ {Symbol : Type 0} (eq : Symbol → Symbol → Bool) (laws : IsEquivalence eq) (Stands : Symbol → Symbol → Type 0)
    (equal : ClonesAreEqual eq Stands) where
  apart : (s t y u : Symbol) → Stands s t → Stands y u → eq s y ≡ false → eq t u ≡ false
  apart s t y u h k e =
      sym (laws.congr s t u (equal s t h)) ∙ laws.symm s u ∙ sym (laws.congr y u s (equal y u k)) ∙ laws.symm y s ∙ e

  all-apart : (s t : Symbol) (us ys : List Symbol) → Stands s t → AllZip (λ u y. Stands y u) us ys
      → AllByRecursion (λ y. eq s y ≡ false) ys → AllByRecursion (λ u. eq t u ≡ false) us
  all-apart s t [] ys h z a = tt
  all-apart s t (u ∷ us) [] h z a = absurd z
  all-apart s t (u ∷ us) (y ∷ ys) h z a = (apart s t y u h z.0 a.0, all-apart s t us ys h z.1 a.1)

  -- if no two symbols are equal, no two of their clones are
  pub distinct-clones : (clones symbols : List Symbol) → AllZip (λ t s. Stands s t) clones symbols → IsDistinct eq symbols
      → IsDistinct eq clones
  distinct-clones [] symbols z d = distinct-none eq
  distinct-clones (t ∷ ts) [] z d = absurd z
  distinct-clones (t ∷ ts) (s ∷ ss) z d =
      IsDistinct-cons eq t ts (all-apart s t ts ss z.0 z.1 (IsDistinct-head eq s ss d))
      (distinct-clones ts ss z.1 (IsDistinct-tail eq s ss d))

  -- if no two symbols of rows are equal, no two of the clones are
  pub distinct-made : (made rows : List (Row Symbol)) → StandForRows Stands made rows → IsDistinct eq (symbols_of rows)
      → IsDistinct eq (symbols_of made)
  distinct-made made rows h d = distinct-clones (symbols_of made) (symbols_of rows) (symbols-stand Stands made rows h) d

  -- two clones of the symbols of rows are equal only if two of the symbols are
  pub repeats-made : (rows : List (Row Symbol)) → ClonesRepeat eq Stands rows → ¬ (IsDistinct eq (symbols_of rows))
  repeats-made rows h = λ d.
      let begin : symbols_of rows ≡ symbols_of h.1 ++ symbols_of h.2 = ap symbols_of h.3 ∙ map-append (λ r. r.symbol) h.1 h.2 in
      h.5 (distinct-made h.0 h.1 h.4
      (distinct-begin eq (symbols_of h.1) (symbols_of h.2) (subst (IsDistinct eq) begin d)))

  -- rows that stand for others have their entries
  pub entries-made : (made rows : List (Row Symbol)) → StandForRows Stands made rows → SameEntries eq made rows
  entries-made [] [] h = λ q. refl
  entries-made [] (r ∷ rs) h = absurd h
  entries-made (m ∷ ms) [] h = absurd h
  entries-made (m ∷ ms) (r ∷ rs) h = λ q.
      entry_of-cons eq q m ms
      ∙ ap (λ o. option_or o (cond (eq m.symbol q) (Some (m.left, m.weight)) None)) (entries-made ms rs h.1 q)
      ∙ ap (λ b. option_or (entry_of eq rs q) (cond b (Some (m.left, m.weight)) None))
      (sym (laws.congr r.symbol m.symbol q (equal r.symbol m.symbol h.0.0)))
      ∙ ap (λ l. option_or (entry_of eq rs q) (cond (eq r.symbol q) (Some (l, m.weight)) None)) h.0.1
      ∙ ap (λ w. option_or (entry_of eq rs q) (cond (eq r.symbol q) (Some (r.left, w)) None)) h.0.2
      ∙ sym (entry_of-cons eq q r rs)

  -- so have rows that hold the entries of their clones
  pub entries-of : (rows others : List (Row Symbol)) → HoldsEntriesOf eq Stands rows others → SameEntries eq rows others
  entries-of rows others h = λ q. h.entries q ∙ entries-made h.made others h.stand q

-- ---- if rows tile and no two of their symbols are equal, their symbols and weights are accepted, and give the rows again

-- rows that tile, with symbols that differ, are made again of their symbols and weights
pub tiling-rebuilds : {Symbol : Type 0} (eq : Symbol → Symbol → Bool) (bits precision : ℕ) (rows : List (Row Symbol))
    → RowsTile bits precision rows → IsDistinct eq (symbols_of rows)
    → AreAccepted eq bits precision (symbols_of rows) (map (λ r. r.weight) rows)
    × (rows_of (symbols_of rows) (map (λ r. r.weight) rows) ≡ rows)
tiling-rebuilds eq bits precision rows t distinct = (
  record {
    tile = t.accepted;
    as_many = length-map rows (λ r. r.symbol) ∙ sym (length-map rows (λ r. r.weight));
    distinct = distinct;
  },
  sym t.in_order,
)
