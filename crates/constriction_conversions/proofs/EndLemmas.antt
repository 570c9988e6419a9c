-- What steps from both ends of a symbol table give.
use Rattle.std.specs.Prelude.{◌≡◌, List, [], ◌∷◌, ◌++◌, Bool, true, false, reverse, Option, Some, Result, Ok, Err}
use Rattle.std.specs.Iterator.{Yields}
use Rattle.std.specs.List.{AllZip}
use Rattle.std.proofs.Common.{ℕ, refl, ap, sym, subst, ◌∙◌, append-nil}
use Rattle.std.proofs.lemmas.List.{append_assoc, reverse-append}
use Rattle.std.proofs.lemmas.Slice.Zip.{all_zipped_more}
use Rattle.constriction_model.specs.Laws.{AreRows}
use Rattle.constriction_model.specs.Model.{row_of}
use Rattle.constriction_model.specs.Rows.{Row}
use Rattle.constriction_model.specs.Tables.{StandsFor, YieldsRow, YieldsLastRow}
use Rattle.constriction_model.specs.lemmas.Walks.{are-rows, first-given}
use Rattle.constriction_conversions.specs.BothEnds.{EitherStep, marked}

module _ {Symbol Word Weight Refusal : Type 0} (Stands : Symbol → Symbol → Type 0) (MayRefuse : Symbol → Type 0) (whole : Word → ℕ)
    (base : Weight → Word) {T : Type 0} (next next_back : T → Option (Result (Symbol × Word × Weight) Refusal) → T → Type 0)
    (rows_left : T → List (Row Symbol)) where
  -- a step from the back that gives an item gives the last row, and the item stands for it
  last-given : (t : T) (item : Result (Symbol × Word × Weight) Refusal) (u : T)
      → YieldsLastRow Stands MayRefuse whole base rows_left t (Some item) u
      → (row : Row Symbol) × (rows_left t ≡ rows_left u ++ row ∷ []) × StandsFor Stands MayRefuse whole base item row
  last-given t (Ok x) u h = (row_of whole base (h.0, x.1, x.2), h.2, ((h.0, h.1, refl), tt))
  last-given t (Err e) u h = (h.0, h.2, (tt, h.1))

  module _
      (front : (t : T) (r : Option (Result (Symbol × Word × Weight) Refusal)) (u : T) → next t r u
      → YieldsRow Stands MayRefuse whole base rows_left t r u)
      (back : (t : T) (r : Option (Result (Symbol × Word × Weight) Refusal)) (u : T) → next_back t r u
      → YieldsLastRow Stands MayRefuse whole base rows_left t r u) where
    stand-for-both : (t : T) (items : List (Bool × Result (Symbol × Word × Weight) Refusal)) (u : T)
        → Yields (EitherStep next next_back) t items u
        → (first : List (Row Symbol)) × (last : List (Row Symbol)) × (rows_left t ≡ first ++ rows_left u ++ last)
        × AllZip (StandsFor Stands MayRefuse whole base) (marked true items) first
        × AllZip (StandsFor Stands MayRefuse whole base) (reverse (marked false items)) last
    stand-for-both t [] u h = ([], [], ap rows_left h ∙ sym (append-nil (rows_left u)), tt, tt)
    stand-for-both t ((true, x) ∷ xs) u (j, step, rest) =
        let one = first-given Stands MayRefuse whole base rows_left t x j (front t (Some x) j step) in
        let more = stand-for-both j xs u rest in
        (one.0 ∷ more.0, more.1, one.1 ∙ ap (λ zs. one.0 ∷ zs) more.2, (one.2, more.3), more.4)
    stand-for-both t ((false, x) ∷ xs) u (j, step, rest) =
        let one = last-given t x j (back t (Some x) j step) in
        let more = stand-for-both j xs u rest in
        let P : List (Result (Symbol × Word × Weight) Refusal) → Type 0
        = λ items. AllZip (StandsFor Stands MayRefuse whole base) items (more.1 ++ one.0 ∷ []) in (
          more.0,
          more.1 ++ one.0 ∷ [],
          one.1 ∙ ap (λ zs. zs ++ one.0 ∷ []) more.2 ∙ append_assoc (more.0 ++ rows_left u) more.1 (one.0 ∷ []),
          more.3,
          subst P (sym (reverse-append (x ∷ []) (marked false xs)))
              (all_zipped_more (StandsFor Stands MayRefuse whole base) (reverse (marked false xs)) more.1 x one.0 more.4 one.2),
        )

    -- the items from the front stand for the first rows, those from the back for the last ones, in reverse, and the others are left
    pub walks-from-both-ends : (t : T) (items : List (Bool × Result (Symbol × Word × Weight) Refusal)) (u : T)
        → Yields (EitherStep next next_back) t items u
        → (first : List (Row Symbol)) × (last : List (Row Symbol)) × (rows_left t ≡ first ++ rows_left u ++ last)
        × AreRows Stands MayRefuse whole base (marked true items) first
        × AreRows Stands MayRefuse whole base (reverse (marked false items)) last
    walks-from-both-ends t items u h =
        let all = stand-for-both t items u h in (
          all.0,
          all.1,
          all.2,
          are-rows Stands MayRefuse whole base (marked true items) all.0 all.3,
          are-rows Stands MayRefuse whole base (reverse (marked false items)) all.1 all.4,
        )
