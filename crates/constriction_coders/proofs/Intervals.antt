-- A step of a range decoder, from its arithmetic.
use Rattle.std.proofs.Common.{◌≡◌, ℕ, ◌+◌, ◌-◌, ◌*◌, ◌/◌, ◌^◌, ◌<◌, ◌≤◌, Bool, true, false, List, [], ◌∷◌, Contains}
use Rattle.std.proofs.Common.{IsFalse, IsTrue, Option, Result, refl, subst, arith}
use Rattle.std.proofs.lemmas.Nat.{mul-le}
use Rattle.constriction_model.specs.Rows.{Row, rows_of}
use Rattle.constriction_coders.specs.Intervals.{interval, Held, IsRead, IsWidenedByRead, held_of}

module _ (offset unit quantile left weight : ℕ) (from : unit * quantile ≤ offset) (to : offset < unit * (quantile + 1))
    (first : left ≤ quantile) (last : quantile < left + weight) where
  above : unit * left ≤ unit * quantile
  above = mul-le unit left unit quantile (omega arith) first

  below : unit * (quantile + 1) ≤ unit * (left + weight)
  below = mul-le unit (quantile + 1) unit (left + weight) (omega arith) (omega (arith, last))

  -- the part of a row of the quantile begins at the point or below it
  pub part_from : unit * left ≤ offset
  part_from = omega (arith, above, from)

  -- the part of a row of the quantile ends above the point
  pub part_to : offset < unit * (left + weight)
  part_to = omega (arith, below, to)

  -- the point lies in the part
  pub part_inside : offset - unit * left < unit * weight
  part_inside = omega (arith, part_to, part_from)

-- the part of a row is no greater than the interval
pub part_within : (precision range unit left weight : ℕ) → unit * 2 ^ precision ≤ range → left + weight ≤ 2 ^ precision
    → unit * weight ≤ range
part_within precision range unit left weight within fits =
    omega (arith, within, mul-le unit weight unit (2 ^ precision) (omega arith) (omega (arith, fits)))

module _ {Symbol S E : Type 0} (Stands : Symbol → Symbol → Type 0) (rows : List (Row Symbol))
    (gives : S → Result (Option ℕ) E → S → Type 0) (precision range offset unit : ℕ) (is : unit ≡ range / 2 ^ precision) where
  -- a symbol was read if the part of its row, in which the point lies, is held next
  pub read_part : (own answer : Symbol) (left weight part_range part_offset : ℕ)
      → Contains rows (record { symbol = own; left = left; weight = weight }) → Stands own answer
      → unit * left ≤ offset → offset < unit * (left + weight) → part_range ≡ unit * weight → part_offset ≡ offset - unit * left
      → (from : S) (new : Held S) → IsWidenedByRead gives (interval part_range part_offset) from new.held new.source
      → IsRead Stands rows gives precision answer (held_of range offset from) new
  read_part own answer left weight part_range part_offset among stands low high r o from new next = record {
    row = record { symbol = own; left = left; weight = weight };
    among = among;
    stands = stands;
    holds = record {
      from = subst (λ u. u * left ≤ offset) is low;
      to = subst (λ u. offset < u * (left + weight)) is high;
    };
    next =
        subst (λ u. IsWidenedByRead gives (interval (u * weight) (offset - u * left)) from new.held new.source) is
        (subst (λ n. IsWidenedByRead gives (interval (unit * weight) n) from new.held new.source) o
        (subst (λ n. IsWidenedByRead gives (interval n part_offset) from new.held new.source) r next));
  }

module _ {S E : Type 0} (gives : S → Result (Option ℕ) E → S → Type 0) (precision range offset weight unit : ℕ)
    (is : unit ≡ range / 2 ^ precision) where
  -- so it is with a bit
  pub read_bit : (bit : Bool) (part_range part_offset : ℕ)
      → (IsFalse bit → (part_range ≡ unit * weight) × (part_offset ≡ offset))
      → (IsTrue bit → (part_range ≡ unit * (2 ^ precision - weight)) × (unit * weight ≤ offset) × (part_offset ≡ offset - unit * weight))
      → part_offset < part_range → (from : S) (new : Held S)
      → IsWidenedByRead gives (interval part_range part_offset) from new.held new.source
      → IsRead (λ s t. t ≡ s) (rows_of (false ∷ true ∷ []) (weight ∷ (2 ^ precision - weight) ∷ [])) gives precision bit
      (held_of range offset from) new
  read_bit false part_range part_offset first second inside =
      let p = first refl in
      read_part _ _ gives precision range offset unit is false false 0 weight part_range part_offset (0, omega arith, refl) refl
      (omega arith) (omega (arith, inside, p.0, p.1)) p.0 (omega (arith, p.1))
  read_bit true part_range part_offset first second inside =
      let p = second refl in
      read_part _ _ gives precision range offset unit is true true (0 + weight) (2 ^ precision - weight) part_range part_offset
      (1, omega arith, refl) refl (omega (arith, p.1)) (omega (arith, inside, p.0, p.1, p.2)) p.0 (omega (arith, p.2))
