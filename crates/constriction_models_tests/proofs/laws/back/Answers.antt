use Rattle.std.proofs.Common.{◌≡◌, ℕ, List, Some, None, refl, ap, sym, subst, arith}
use Rattle.std.specs.Prelude.{nat_eq}
use Rattle.std.specs.List.{IsDistinct}
use Rattle.constriction.specs.Rows.{Row, IsRowOf, entry_of, symbols_of}
use Rattle.constriction.specs.Entries.{SameEntries}
use Rattle.constriction.specs.Laws.{IsOneToOne}
use Rattle.constriction_models_tests.proofs.laws.back.Goals as goal

-- the answer of a model that clones nothing is the row itself
the-row : (rows : List (Row ℕ)) (q own symbol left weight : ℕ) → symbol ≡ own
    → IsRowOf rows q (record { symbol = own; left = left; weight = weight })
    → IsRowOf rows q (record { symbol = symbol; left = left; weight = weight })
the-row rows q own symbol left weight is h =
    subst (λ s. IsRowOf rows q (record { symbol = s; left = left; weight = weight })) (sym is) h

module _ {Model : Type 0} (precision : ℕ) (rows : Model → List (Row ℕ)) (m : Model) (q : ℕ) (r : Row ℕ)
    (law : (d e : Model) → IsDistinct nat_eq (symbols_of (rows d)) → SameEntries nat_eq (rows e) (rows d)
    → IsOneToOne nat_eq (entry_of nat_eq (rows e)) precision (rows d))
    (differ : IsDistinct nat_eq (symbols_of (rows m)))
    (found : IsRowOf (rows m) q r) where
  -- the symbol of a quantile's row has the entry of the row
  its-entry : entry_of nat_eq (rows m) r.symbol ≡ Some (r.left, r.weight)
  its-entry = ((law m m differ (λ s. refl)).there q r found).0

  no-entry : None ≡ entry_of nat_eq (rows m) r.symbol → ⊥
  no-entry e = let f = its-entry in cc

  -- equal entries begin at the same quantile
  same-left : (a b : ℕ) → Some (a, b) ≡ entry_of nat_eq (rows m) r.symbol → a ≡ r.left
  same-left a b e =
      let f = its-entry in
      let pair : ◌≡◌ {A = ℕ × ℕ} (a, b) (r.left, r.weight) = cc in
      ap (λ (x : ℕ × ℕ). x.0) pair

pub unreachable-requires-in-None : goal.unreachable-requires-in-None
unreachable-requires-in-None c =
    no-entry 6 _ c.args.model.now c.args.quantile _ c.pairs_are_quantiles.ensures (c.contiguous_symbols_differ.ensures _)
    (the-row _ _ _ _ _ _ c.in-Ok.ensures.row.1 c.in-Ok.ensures.row.2) c.in-None.ensures.entry

pub returns : goal.returns
returns c =
    omega (
      arith,
      c.in-Ok.ensures.row.2.from,
      same-left 6 _ c.args.model.now c.args.quantile _ c.pairs_are_quantiles.ensures (c.contiguous_symbols_differ.ensures _)
          (the-row _ _ _ _ _ _ c.in-Ok.ensures.row.1 c.in-Ok.ensures.row.2) _ _ c.in-Some.ensures.entry,
    )

pub overflow_add-result : goal.overflow_add-result
overflow_add-result c =
    omega (
      arith,
      c.ranges.quantile,
      c.in-Ok.ensures.row.2.from,
      same-left 6 _ c.args.model.now c.args.quantile _ c.pairs_are_quantiles.ensures (c.contiguous_symbols_differ.ensures _)
          (the-row _ _ _ _ _ _ c.in-Ok.ensures.row.1 c.in-Ok.ensures.row.2) _ _ c.in-Some.ensures.entry,
    )
