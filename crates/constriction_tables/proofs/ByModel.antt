-- Tables of the rows that a walk gives.
use Rattle.std.specs.Prelude.{◌≡◌, ℕ, ◌^◌, ◌<◌, Bool, true, List, [], ◌∷◌, ◌++◌, length, map, Contains, Some, Result, Ok}
use Rattle.std.specs.List.{AllZip, IsDistinct, list_any}
use Rattle.std.proofs.Common.{append_assoc, ap, arith, subst, sym, ◌∙◌}
use Rattle.std.proofs.Math.Pow.{pow-lt}
use Rattle.std.proofs.Math.Seq.{get_or-append_seam}
use Rattle.std.proofs.lemmas.List.{length-append, map-append}
use Rattle.std.proofs.lemmas.List.Elements.{All-contains}
use Rattle.constriction_model.specs.Model.{row_of, LiesWithin, StandForRows}
use Rattle.constriction_model.specs.Rows.{Row, RowsTile, symbols_of}
use Rattle.constriction_model.specs.Tables.{YieldsRow}
use Rattle.constriction_model.specs.lemmas.Coding.{rows-within}
use Rattle.constriction_stored_rows.proofs.ReadLemmas.{not-distinct}
use Rattle.constriction_tables.proofs.ByNumber.{below-sum}

-- one more pair
zip-push : {X Y : Type 0} (R : X → Y → Type 0) (xs : List X) (ys : List Y) (x : X) (y : Y) → AllZip R xs ys → R x y
    → AllZip R (xs ++ x ∷ []) (ys ++ y ∷ [])
zip-push R [] [] x y all h = (h, tt)
zip-push R [] (z ∷ ys) x y all h = absurd all
zip-push R (z ∷ xs) [] x y all h = absurd all
zip-push R (z ∷ xs) (v ∷ ys) x y all h = (all.0, zip-push R xs ys x y all.1 h)

-- rows that tile over words of some width do so over wider ones than their quantiles need
pub tile-wide : {S : Type 0} (bits other precision : ℕ) (rows : List (Row S)) → precision < other → RowsTile bits precision rows
    → RowsTile other precision rows
tile-wide bits other precision rows narrow tile =
    let less : 2 ^ precision < 2 ^ other = pow-lt narrow in
    record {
      accepted = record {
        tiles = tile.accepted.tiles;
        fit = below-sum (2 ^ other) (map (λ r. r.weight) rows) (omega (arith, tile.accepted.tiles.total));
      };
      in_order = tile.in_order;
    }

module _ {Symbol Word Weight Refusal T : Type 0} (Stands : Symbol → Symbol → Type 0) (MayRefuse : Symbol → Type 0) (whole : Word → ℕ)
    (base : Weight → Word) (rows_left : T → List (Row Symbol)) (t : T) (o : Result (Symbol × Word × Weight) Refusal)
    (x : Symbol × Word × Weight) (u : T) (step : YieldsRow Stands MayRefuse whole base rows_left t (Some o) u) (is : o ≡ Ok x) where
  -- the row that a step gives
  pub given : (own : Symbol) × Stands own x.0 × (rows_left t ≡ row_of whole base (own, x.1, x.2) ∷ rows_left u)
  given =
      subst (λ (p : Result (Symbol × Word × Weight) Refusal). YieldsRow Stands MayRefuse whole base rows_left t (Some p) u) is step

  module _ (rows first : List (Row Symbol)) (all : rows ≡ first ++ rows_left t) where
    -- the rows so far and those that are left are all rows
    pub walked-all : rows ≡ (first ++ row_of whole base (given.0, x.1, x.2) ∷ []) ++ rows_left u
    walked-all =
        all ∙ ap (λ rs. first ++ rs) given.2 ∙ sym (append_assoc first (row_of whole base (given.0, x.1, x.2) ∷ []) (rows_left u))

    -- the row that was given lies within the quantiles
    pub walked-within : (bits precision : ℕ) → RowsTile bits precision rows
        → LiesWithin precision (row_of whole base (given.0, x.1, x.2))
    walked-within bits precision tile =
        let r : Row Symbol = row_of whole base (given.0, x.1, x.2) in
        let split : rows ≡ first ++ r ∷ rows_left u = all ∙ ap (λ rs. first ++ rs) given.2 in
        let among : Contains (first ++ r ∷ rows_left u) r =
        (length first, omega (arith, length-append first (r ∷ rows_left u)), get_or-append_seam first r (rows_left u) r) in
        All-contains (LiesWithin precision) rows r (rows-within bits precision rows tile)
        (subst (λ (rs : List (Row Symbol)). Contains rs r) (sym split) among)

    module _ (made : List (Row Symbol)) (stand : StandForRows Stands made first) (left weight : ℕ) (left_is : left ≡ whole x.1)
        (weight_is : weight ≡ whole (base x.2)) where
      -- the rows that were taken, with one more
      pub walked-stand : StandForRows Stands (made ++ record { symbol = x.0; left = left; weight = weight } ∷ [])
          (first ++ row_of whole base (given.0, x.1, x.2) ∷ [])
      walked-stand =
          zip-push (λ m r. Stands r.symbol m.symbol × (m.left ≡ r.left) × (m.weight ≡ r.weight)) made first
          (record { symbol = x.0; left = left; weight = weight }) (row_of whole base (given.0, x.1, x.2)) stand
          (given.1, left_is, weight_is)

      -- a symbol that is equal to one before it makes two equal symbols
      pub walked-again : (eq : Symbol → Symbol → Bool) → ((s v : Symbol) → eq s v ≡ eq v s) → list_any (eq x.0) (symbols_of made) ≡ true
          → ¬ (IsDistinct eq (symbols_of (made ++ record { symbol = x.0; left = left; weight = weight } ∷ [])))
      walked-again eq symm again = λ d.
          not-distinct eq symm (symbols_of made) [] x.0 again
          (subst (IsDistinct eq)
          (map-append (λ (r : Row Symbol). r.symbol) made (record { symbol = x.0; left = left; weight = weight } ∷ [])) d)
