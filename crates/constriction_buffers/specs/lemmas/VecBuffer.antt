-- A `Vec` with other items in it: the impls cite these, and a caller's own buffer may.
use Rattle.std.specs.Prelude.{◌≡◌, List, ◌≤◌, length}
use Rattle.std.specs.Vec.{with_items}
use Rattle.std.specs.declared.vec.Vec.{Vec}
use Rattle.std.proofs.Common.{sym, ap, ◌∙◌, refl, subst}
use Rattle.std.proofs.Props.{props}
use Rattle.std.proofs.lemmas.List.{with_items_is}

module _ {X Z : Type 0} (v : Vec X Z) where
  -- a vector that is given as many items as it had has these
  pub with_items_stand : (ws : List X) → length ws ≡ length v.items → (with_items v ws).items ≡ ws
  with_items_stand ws same = with_items_is v ws (same ∙ sym v.ok.0)

  -- it has as many as before, whatever it is given
  pub with_items-length : (ws : List X) → length (with_items v ws).items ≡ length v.items
  with_items-length ws = sym (with_items v ws).ok.0 ∙ v.ok.0

  abbrev Fits : List X → Type 0
  Fits xs = (v.len ≡ length xs) × (v.len ≤ v.cap)

  abbrev made : (xs : List X) → Fits xs → Vec X Z
  made xs k = record { ptr = v.ptr; len = v.len; cap = v.cap; alloc = v.alloc; items = xs; ok = k; small = v.small }

  Fits-prop : (xs : List X) → IsProp (Fits xs)
  Fits-prop xs = Prim.hlevel props

  -- two vectors that differ from v in their items alone are equal if their items are
  made_same : (xs ys : List X) (k : Fits xs) (l : Fits ys) → xs ≡ ys → made xs k ≡ made ys l
  made_same xs ys k l e =
      subst (λ (zs : List X). (m : Fits zs) → made xs k ≡ made zs m) e (λ m. ap (made xs) (Fits-prop xs k m)) l

  -- a vector that is given its own items is unchanged
  pub with_items_unchanged : with_items v v.items ≡ v
  with_items_unchanged = made_same _ _ (with_items v v.items).ok v.ok (with_items_stand v.items refl)

  -- of two lists of items that it is given, one after the other, the second counts
  pub with_items_again : (ws vs : List X) → length vs ≡ length v.items → with_items (with_items v ws) vs ≡ with_items v vs
  with_items_again ws vs same =
      made_same _ _ (with_items (with_items v ws) vs).ok (with_items v vs).ok
      (with_items_is (with_items v ws) vs (same ∙ sym v.ok.0) ∙ sym (with_items_stand vs same))
