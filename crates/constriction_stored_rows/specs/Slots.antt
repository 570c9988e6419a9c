-- The slots of lookup models, and which rows meet one.
use Rattle.std.specs.Prelude.{ℕ, ◌+◌, ◌-◌, ◌*◌, ◌^◌, min, Bool, ltb, ◌&&◌}
use Rattle.constriction_model.specs.Rows.{Row}

-- how many slots a model divides its quantiles into: 2 ^ slot_bits, or 2 ^ precision, a slot for each quantile, if that is less
abbrev pub slot_count : (precision slot_bits : ℕ) → ℕ
slot_count precision slot_bits = 2 ^ min precision slot_bits

-- how many quantiles each slot holds: one if the precision is at most slot_bits
abbrev pub slot_width : (precision slot_bits : ℕ) → ℕ
slot_width precision slot_bits = 2 ^ (precision - slot_bits)

-- whether a row with quantiles meets a slot, so that some quantile is in both: it begins before the slot ends, and ends after the slot
-- begins
abbrev pub meets_slot : {Symbol : Type 0} → ℕ → ℕ → Row Symbol → Bool
meets_slot width slot row = ltb row.left (slot * width + width) && ltb (slot * width) (row.left + row.weight)
