-- What a model of one bit answers.
use Rattle.std.proofs.Common.{◌≡◌, ◌≢◌, ℕ, ◌-◌, ◌<◌, ◌≤◌, Bool, true, false, List, Option, Some, None, refl, ap, sym, ◌∙◌, arith, zero-add}
use Rattle.std.specs.Bool.{beq}
use Rattle.constriction_model.specs.Rows.{Row, IsRowOf, entry_of}
use Rattle.constriction_adaptive.specs.Bit.{bit_rows}

-- the entry of a bit that is 1
pub entry-one : (first weight : ℕ) (b : Bool) → weight ≡ 65536 - first → b ≡ true → Some (first, weight) ≡ entry_of beq (bit_rows first) b
entry-one first weight true is h = ap (λ w. Some (first, w)) is ∙ ap (λ l. Some (l, 65536 - first)) (sym (zero-add first))
entry-one first weight false is h = absurd (let wrong = h in cc)

-- the entry of a bit that is 0
pub entry-zero : (first weight : ℕ) (b : Bool) → weight ≡ first → b ≡ false → Some (0, weight) ≡ entry_of beq (bit_rows first) b
entry-zero first weight true is h = absurd (let wrong = h in cc)
entry-zero first weight false is h = ap (λ w. Some (0, w)) is

-- both bits have an entry
pub some-entry : (first : ℕ) (rows : List (Row Bool)) (b : Bool) → bit_rows first ≡ rows → entry_of beq rows b ≢ None
some-entry first rows true is none =
    let wrong : ◌≡◌ {A = Option (ℕ × ℕ)} (Some (first, 65536 - first)) None =
    entry-one first (65536 - first) true refl refl ∙ ap (λ (r : List (Row Bool)). entry_of beq r true) is ∙ none in
    cc
some-entry first rows false is none =
    let wrong : ◌≡◌ {A = Option (ℕ × ℕ)} (Some (0, first)) None =
    entry-zero first first false refl refl ∙ ap (λ (r : List (Row Bool)). entry_of beq r false) is ∙ none in
    cc

-- a quantile below the weight of 0 has the row of 0
pub row-zero : (first weight quantile : ℕ) → weight ≡ first → quantile < first
    → IsRowOf (bit_rows first) quantile (record { symbol = false; left = 0; weight = weight })
row-zero first weight quantile is below = record {
  among = (0, omega arith, ap (λ (w : ℕ). let r : Row Bool = record { symbol = false; left = 0; weight = w } in r) (sym is));
  from = omega arith;
  to = omega (arith, is, below);
}

-- any other quantile has the row of 1
pub row-one : (first weight quantile : ℕ) → weight ≡ 65536 - first → first ≤ quantile → quantile < 65536
    → IsRowOf (bit_rows first) quantile (record { symbol = true; left = first; weight = weight })
row-one first weight quantile is least below = record {
  among = (
    1,
    omega arith,
    ap (λ (l : ℕ). let r : Row Bool = record { symbol = true; left = l; weight = 65536 - first } in r) (zero-add first)
        ∙ ap (λ (w : ℕ). let r : Row Bool = record { symbol = true; left = first; weight = w } in r) (sym is),
  );
  from = least;
  to = omega (arith, is, below);
}
