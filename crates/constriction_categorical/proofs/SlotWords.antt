-- The words that a table lends: the words of its slots, and the words after these.
use Rattle.std.proofs.Common.{◌≡◌, ℕ, ◌-◌, ◌*◌, ◌≤◌, List, length, map, take, drop, arith}
use Rattle.std.proofs.lemmas.List.{drop-map, length-drop, length-map, length-take, take-map, take_all}
use Rattle.constriction_stored_rows.specs.SlotTable.{BeginsWithSlots, HasSlots, MayFollow, words_a_slot}

module _ {Word : Type 0} (whole : Word → ℕ) (bits precision width count : ℕ) (lefts : List ℕ) (words lent : List Word)
    (t : BeginsWithSlots bits precision width count lefts (map whole words)) (e : lent ≡ words) (n : ℕ)
    (many : n ≡ words_a_slot width * count) where
  -- the slots have no more words than are lent
  pub slots-within : n ≤ length lent
  slots-within =
      let within : words_a_slot width * count ≤ length words =
      omega (arith, t.slots.long, length-take (words_a_slot width * count) (map whole words), length-map words whole) in
      rw (many, e) within

  -- the words that are lent begin with the slots
  pub slots-lent : HasSlots width count lefts (map whole (take n lent))
  slots-lent =
      let same : take (words_a_slot width * count) (map whole words) ≡ map whole (take n lent) =
      rw (e, many) (take-map whole (words_a_slot width * count) words) in
      rw same at t.slots

  -- what may follow the slots follows them there
  pub rest-lent : MayFollow bits precision lefts (map whole (take (length lent - n) (drop n lent)))
  rest-lent =
      let all : take (length lent - n) (drop n lent) ≡ drop n lent =
      take_all (length lent - n) (drop n lent) (omega (arith, length-drop n lent)) in
      let same : drop (words_a_slot width * count) (map whole words) ≡ map whole (take (length lent - n) (drop n lent)) =
      rw (all, e, many) (drop-map whole (words_a_slot width * count) words) in
      rw same at t.rest
