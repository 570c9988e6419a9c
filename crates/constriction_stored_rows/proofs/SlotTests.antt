-- The test for rows that meet a slot.
use Rattle.std.proofs.Common.{◌≡◌, true, ℕ, ◌+◌, ◌-◌, ◌*◌, ◌<◌, List, get_or, arith, inl, inr}
use Rattle.std.proofs.lemmas.Bool.{cases_lt, lt-ltb, ltb-true, and_parts, and_from}
use Rattle.std.proofs.lemmas.Nat.{pow_pos}
use Rattle.constriction_model.specs.private.Searching.{TellsRows}
use Rattle.constriction_model.specs.Rows.{Row, RowsTile}
use Rattle.constriction_stored_rows.specs.Slots.{meets_slot, slot_width}
use Rattle.constriction_stored_rows.proofs.SlotLemmas.{MeetsSlot}
use Rattle.constriction_stored_rows.proofs.TileLemmas.{tile-at}

-- what the test says of rows that meet a slot, and of rows that do not
met-tested : {S : Type 0} (width slot : ℕ) (r : Row S) → MeetsSlot width slot r → meets_slot width slot r ≡ true
met-tested width slot r m =
    and_from _ _
    (lt-ltb r.left (slot * width + width) (omega (arith, m.in_slot, m.in_row)))
    (lt-ltb (slot * width) (r.left + r.weight) (omega (arith, m.in_slot, m.in_row)))

tested-met : {S : Type 0} (width slot : ℕ) (r : Row S) → 0 < width → 0 < r.weight → meets_slot width slot r ≡ true
    → MeetsSlot width slot r
tested-met width slot r wide some e =
    let both = and_parts _ _ e in
    let begins : r.left < slot * width + width = ltb-true r.left (slot * width + width) both.0 in
    let ends : slot * width < r.left + r.weight = ltb-true (slot * width) (r.left + r.weight) both.1 in
    elim (cases_lt r.left (slot * width)) [
      | inl before ↦ record {
        quantile = slot * width;
        in_slot = (omega arith, omega arith);
        in_row = (omega arith, omega arith);
      }
      | inr not ↦ record {
        quantile = r.left;
        in_slot = (omega arith, omega arith);
        in_row = (omega arith, omega arith);
      }
    ]

module _ {S : Type 0} (bits precision slot_bits : ℕ) (rows : List (Row S)) (t : RowsTile bits precision rows) where
  -- a list that covers the rows that meet a slot covers the rows that the test finds
  pub tells-tested : (j first : ℕ) (known : List ℕ) → TellsRows rows (MeetsSlot (slot_width precision slot_bits) j) first known
      → TellsRows rows (λ r. meets_slot (slot_width precision slot_bits) j r ≡ true) first known
  tells-tested j first known tells =
      let width : ℕ = slot_width precision slot_bits in
      record {
        exactly = λ i d h. (
          λ e.
              (tells.exactly i d h).0
              (tested-met width j (get_or rows i d) (pow_pos (precision - slot_bits)) (tile-at bits precision rows t i d h).positive e),
          λ run. met-tested width j (get_or rows i d) ((tells.exactly i d h).1 run),
        );
        within = tells.within;
        in_order = tells.in_order;
      }
