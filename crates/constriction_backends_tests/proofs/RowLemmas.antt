-- Rows of three parts, each of which is compared exactly.
use Rattle.std.proofs.Common.{◌≡◌, ◌↔◌, ◌&&◌, ℕ, Bool, IsTrue, eqb, ap, sym, ◌∙◌}
use Rattle.std.proofs.lemmas.Bool.{and_parts, and_from}
use Rattle.std.proofs.lemmas.Bool.Decides.{Decides-eqb}

module _ {W V : Type 0} (a b : ℕ × W × V) (word weight : Bool)
    (word_is : IsTrue word ↔ (a.1 ≡ b.1)) (weight_is : IsTrue weight ↔ (a.2 ≡ b.2)) where
  abbrev agree : Bool
  agree = (eqb a.0 b.0 && word) && weight

  -- if all parts agree, two rows are one
  one_row : IsTrue agree → a ≡ b
  one_row all_hold =
      let all = and_parts (eqb a.0 b.0 && word) weight all_hold in
      let front = and_parts (eqb a.0 b.0) word all.0 in
      let symbol = (Decides-eqb a.0 b.0).0 front.0 in
      let left = word_is.0 front.1 in
      let last = weight_is.0 all.1 in
      λ i. (symbol i, left i, last i)

  all_agree : a ≡ b → IsTrue agree
  all_agree e =
      and_from (eqb a.0 b.0 && word) weight
      (and_from (eqb a.0 b.0) word ((Decides-eqb a.0 b.0).1 (ap (λ x. x.0) e)) (word_is.1 (ap (λ x. x.1) e)))
      (weight_is.1 (ap (λ x. x.2) e))

  -- two rows are one exactly if their parts agree
  pub rows_agree : (found : Bool) → found ≡ agree → IsTrue found ↔ (a ≡ b)
  rows_agree found is = ((λ t. one_row (sym is ∙ t)), (λ e. is ∙ all_agree e))
