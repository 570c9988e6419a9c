-- The rows that meet a slot.
use Rattle.std.proofs.Common.{◌≡◌, ℕ, ◌+◌, ◌-◌, ◌*◌, ◌/◌, ◌^◌, ◌<◌, ◌≤◌, ◌⊎◌, List, [], ◌++◌, length, get_or, map, take, drop, refl, ap, sym, subst, ◌∙◌, arith, inl, inr}
use Rattle.std.proofs.lemmas.Bool.{cases_lt}
use Rattle.std.proofs.lemmas.List.{length-map, take-map, drop-map, get_or-take, get_or-drop, length-take-le, length-drop, append-nil, take_at, drop_at}
use Rattle.std.proofs.Math.Nat.{div-mul-le_self, lt-div-mul-add}
use Rattle.std.proofs.lemmas.Nat.{pow_pos}
use Rattle.std.specs.List.Sorted.{IsStrictlyIncreasing}
use Rattle.constriction_model.specs.Rows.{Row, RowsTile}
use Rattle.constriction_model.specs.Probe.{IsSearchable, IsLastAtMost, IsRowIndexOf}
use Rattle.constriction_model.specs.private.Searching.{TellsRows}
use Rattle.constriction_stored_rows.specs.Slots.{slot_width, slot_count}
use Rattle.constriction_stored_rows.specs.Stored.{with_total}
use Rattle.constriction_stored_rows.specs.SlotTable.{words_a_slot, HasSlots, MayFollow, BeginsWithSlots, IsSlot, IsSlotPart}
use Rattle.constriction_stored_rows.specs.lemmas.Stored.{read-whole}
use Rattle.constriction_model.proofs.Halving.{later}
use Rattle.constriction_stored_rows.proofs.SlotFilling.{slot-within, slot-below}
use Rattle.constriction_stored_rows.proofs.TileLemmas.{IsTile, tile-at, tiles-many, tiles-increase, tiles-found}

-- some quantile lies both in a row and in a slot
pub record MeetsSlot {Symbol : Type 0} (width slot : ℕ) (row : Row Symbol) : Type 0 where
  pub quantile : ℕ
  pub in_slot : (slot * width ≤ quantile) × (quantile < slot * width + width)
  pub in_row : (row.left ≤ quantile) × (quantile < row.left + row.weight)

-- the slot of a quantile holds it
pub slot-from : (precision slot_bits q : ℕ) → q / slot_width precision slot_bits * slot_width precision slot_bits ≤ q
slot-from precision slot_bits q = div-mul-le_self q (slot_width precision slot_bits)

-- a quantile is at most the last one of its slot
pub slot-to : (precision slot_bits q : ℕ)
    → q ≤ q / slot_width precision slot_bits * slot_width precision slot_bits + (slot_width precision slot_bits - 1)
slot-to precision slot_bits q =
    let below = lt-div-mul-add {a = q} {b = slot_width precision slot_bits} (pow_pos (precision - slot_bits)) in
    omega (arith, below)

-- if one row alone meets the slot of a quantile, it is the quantile's row
pub slot_only : (precision slot_bits q : ℕ) (lefts : List ℕ) (first last : ℕ) → first ≡ last
    → IsSlot lefts (slot_width precision slot_bits) (q / slot_width precision slot_bits) first last → IsLastAtMost lefts q first
slot_only precision slot_bits q lefts first last same s = record {
  in_bounds = s.from.in_bounds;
  at_most = omega (arith, s.from.at_most, slot-from precision slot_bits q);
  last = λ j a b. omega (arith, s.to.last j (omega arith) b, slot-to precision slot_bits q);
}

-- a comparison adds 1 if the row begins after the quantile, else 0
added : (left q one : ℕ) → (left ≤ q → one ≡ 0) → (q < left → one ≡ 1) → ((left ≤ q) × (one ≡ 0)) ⊎ ((q < left) × (one ≡ 1))
added left q one at_most above = elim (cases_lt q left) [ inl less ↦ inr (less, above less) | inr not ↦ inl (not, at_most not) ]

-- if at most three rows meet the slot of a quantile, two comparisons find the quantile's row
module _ (precision slot_bits q : ℕ) (lefts : List ℕ) (up : IsStrictlyIncreasing lefts) (first last : ℕ)
    (s : IsSlot lefts (slot_width precision slot_bits) (q / slot_width precision slot_bits) first last) where
  -- the row that begins at the quantile or below it, and before a row of the slot that begins after it
  row-here : (i : ℕ) → i ≤ last → get_or lefts i 0 ≤ q → (i < last → q < get_or lefts (i + 1) 0) → IsLastAtMost lefts q i
  row-here i within low next = record {
    in_bounds = omega (arith, s.to.in_bounds);
    at_most = low;
    last = λ j more here. elim (cases_lt last j) [
      | inl past ↦ omega (arith, s.to.last j past here, slot-to precision slot_bits q)
      | inr inside ↦ elim (cases_lt (i + 1) j) [
        | inl after ↦ omega (arith, later lefts (i + 1) j up after here, next (omega arith))
        | inr not ↦ (let is : i + 1 ≡ j = omega arith in rw is at (next (omega arith)))
      ]
    ];
  }

  -- a comparison with the last row and one with the middle one tell how many rows before the last the quantile's row is
  pub row_of_three : (middle a b : ℕ) → first ≤ last → last ≤ first + 2 → middle ≡ first + (last - first) / 2
      → (get_or lefts last 0 ≤ q → a ≡ 0) → (q < get_or lefts last 0 → a ≡ 1)
      → (get_or lefts middle 0 ≤ q → b ≡ 0) → (q < get_or lefts middle 0 → b ≡ 1)
      → (a + b ≤ last) × IsLastAtMost lefts q (last - (a + b))
  row_of_three middle a b order few mid last_not last_is middle_not middle_is =
      let low : get_or lefts first 0 ≤ q = omega (arith, s.from.at_most, slot-from precision slot_bits q) in
      elim (added (get_or lefts last 0) q a last_not last_is) [
        | inl below ↦
            let too : get_or lefts middle 0 ≤ q = elim (cases_lt middle last) [
              | inl before ↦ omega (arith, later lefts middle last up before s.to.in_bounds, below.0)
              | inr not ↦ (let is : last ≡ middle = omega arith in rw is at below.0)
            ] in
            let is : last - (a + b) ≡ last = omega (arith, below.1, middle_not too) in
            (omega (arith, below.1, middle_not too), rw is (row-here last (omega arith) below.0 (λ h. absurd (omega arith))))
        | inr above ↦
            let apart : first < last = elim (cases_lt first last) [
              | inl before ↦ before
              | inr not ↦ (let is : last ≡ first = omega arith in absurd (omega (arith, low, rw is at above.0)))
            ] in
            elim (added (get_or lefts middle 0) q b middle_not middle_is) [
              | inl below ↦
                  let next : middle + 1 ≡ last = omega arith in
                  let is : last - (a + b) ≡ middle = omega (arith, above.1, below.1) in
                  (omega (arith, above.1, below.1), rw is (row-here middle (omega arith) below.0 (λ h. rw next above.0)))
              | inr both ↦
                  let more : first < middle = elim (cases_lt first middle) [
                    | inl before ↦ before
                    | inr not ↦ (let is : middle ≡ first = omega arith in absurd (omega (arith, low, rw is at both.0)))
                  ] in
                  let next : first + 1 ≡ middle = omega arith in
                  let is : last - (a + b) ≡ first = omega (arith, above.1, both.1) in
                  (omega (arith, above.1, both.1), rw is (row-here first order low (λ h. rw next both.0)))
            ]
      ]

-- what the words of a slot tell, in a table over words
module _ {W E : Type 0} (whole : W → ℕ) (left_of : E → ℕ) (entries : List E) (table : List W) (width count slot : ℕ)
    (s : HasSlots width count (map left_of entries) (map whole table)) (within : slot < count) where
  word-at : (q i : ℕ) (w : W) → i < length table → w ≡ get_or table i w
      → (i < length (map whole table) → IsLastAtMost (map left_of entries) q (get_or (map whole table) i 0))
      → IsLastAtMost (map left_of entries) q (whole w)
  word-at q i w h is found =
      subst (λ k. IsLastAtMost (map left_of entries) q k) (read-whole whole table i w h is)
      (found (omega (arith, h, length-map table whole)))

  row-within : (q : ℕ) (w : W) → IsLastAtMost (map left_of entries) q (whole w) → whole w < length entries
  row-within q w l = omega (arith, l.in_bounds, length-map entries left_of)

  -- a slot that has one word
  module _ (one : width ≡ 1) where
    alone : words_a_slot width ≡ 1
    alone = omega (arith, one)

    -- a slot of one word is in the table
    pub alone-within : slot < length table
    alone-within =
        let long : length (map whole table) ≡ 1 * count = rw alone at s.long in
        omega (arith, long, length-map table whole)

    -- its word is the one row that meets it
    pub slot-alone : (w : W) → w ≡ get_or table slot w → IsSlot (map left_of entries) width slot (whole w) (whole w)
    slot-alone w is =
        let same : 1 * slot ≡ slot = omega arith in
        let same_last : 1 * slot + 0 ≡ slot = omega arith in
        record {
          from = word-at (slot * width) slot w alone-within is (rw same at (rw alone at (s.words.first slot)));
          to = word-at (slot * width + (width - 1)) slot w alone-within is (rw same_last at (rw alone at (s.words.last slot)));
        }

    -- this row is one of the rows
    pub alone-row : (w : W) → w ≡ get_or table slot w → whole w < length entries
    alone-row w is = row-within (slot * width) w (slot-alone w is).from

  -- a slot that has two words
  module _ (more : 1 < width) where
    both : words_a_slot width ≡ 2
    both = omega (arith, more)

    -- both words of a slot are in the table
    pub pair-within : 2 * slot + 1 < length table
    pair-within =
        let long : length (map whole table) ≡ 2 * count = rw both at s.long in
        omega (arith, long, within, length-map table whole)

    first : (a : W) → a ≡ get_or table (2 * slot) a → IsLastAtMost (map left_of entries) (slot * width) (whole a)
    first a is = word-at (slot * width) (2 * slot) a (omega (arith, pair-within)) is (rw both at (s.words.first slot))

    last : (b : W) → b ≡ get_or table (2 * slot + 1) b → IsLastAtMost (map left_of entries) (slot * width + (width - 1)) (whole b)
    last b is = word-at (slot * width + (width - 1)) (2 * slot + 1) b pair-within is (rw both at (s.words.last slot))

    -- its first row is one of the rows
    pub pair-first : (a : W) → a ≡ get_or table (2 * slot) a → whole a < length entries
    pair-first a is = row-within (slot * width) a (first a is)

    -- its last row is one of the rows
    pub pair-last : (b : W) → b ≡ get_or table (2 * slot + 1) b → whole b < length entries
    pair-last b is = row-within (slot * width + (width - 1)) b (last b is)

    -- its words are the first and the last row that meet it
    pub slot-pair : (a b : W) → a ≡ get_or table (2 * slot) a → b ≡ get_or table (2 * slot + 1) b
        → IsSlot (map left_of entries) width slot (whole a) (whole b)
    slot-pair a b is_first is_last = record { from = first a is_first; to = last b is_last }

-- a greater quantile has no earlier row
last-order : (lefts : List ℕ) (x y i k : ℕ) → IsLastAtMost lefts x i → IsLastAtMost lefts y k → x ≤ y → i ≤ k
last-order lefts x y i k a b h = elim (cases_lt k i) [
  | inl before ↦ absurd (omega (arith, b.last i before a.in_bounds, a.at_most))
  | inr not ↦ not
]

-- the first of these is not after the last
pub slot-order : (lefts : List ℕ) (width slot first last : ℕ) → IsSlot lefts width slot first last → first ≤ last
slot-order lefts width slot first last s =
    last-order lefts (slot * width) (slot * width + (width - 1)) first last s.from s.to (omega arith)

-- a part of the words has the numbers of that part
pub part-whole : {W : Type 0} (whole : W → ℕ) (xs : List W) (first count : ℕ)
    → map whole (take count (drop first xs)) ≡ take count (drop first (map whole xs))
part-whole whole xs first count = sym (take-map whole count (drop first xs)) ∙ ap (take count) (sym (drop-map whole first xs))

-- how many rows there are from the first one that meets the slot to the last one
pub slot-long : (lefts : List ℕ) (width slot first last : ℕ) → IsSlot lefts width slot first last
    → length (take (last + 1 - first) (drop first lefts)) ≡ last - first + 1
slot-long lefts width slot first last s =
    let order = slot-order lefts width slot first last s in
    omega (
      arith,
      length-take-le (last + 1 - first) (drop first lefts) (simp length-drop (omega (arith, s.to.in_bounds))),
    )

-- the rows between the two words of a slot
pub slot-part : (lefts : List ℕ) (width slot first last : ℕ) → IsSlot lefts width slot first last
    → IsSlotPart lefts width slot first (take (last + 1 - first) (drop first lefts))
slot-part lefts width slot first last s =
    let order = slot-order lefts width slot first last s in
    let long : length (take (last + 1 - first) (drop first lefts)) ≡ last + 1 - first =
    omega (arith, slot-long lefts width slot first last s) in
    record {
      last = last;
      rows = s;
      long = omega arith;
      in_order = ap (λ n. take n (drop first lefts)) (sym long);
    }

-- a lookup table: the words of the slots, and what may follow them
pub begins-slots : (bits precision width count : ℕ) (lefts slots rest table : List ℕ) → HasSlots width count lefts slots
    → table ≡ slots ++ rest → MayFollow bits precision lefts rest → BeginsWithSlots bits precision width count lefts table
begins-slots bits precision width count lefts slots rest table s e follows = record {
  slots = rw (e, take_at slots rest (words_a_slot width * count) s.long) s;
  rest = rw (e, drop_at slots rest (words_a_slot width * count) s.long) follows;
}

-- nothing follows them
pub begins-alone : (bits precision width count : ℕ) (lefts slots : List ℕ) → HasSlots width count lefts slots
    → BeginsWithSlots bits precision width count lefts slots
begins-alone bits precision width count lefts slots s =
    begins-slots bits precision width count lefts slots [] slots s (sym (append-nil slots)) (λ some. absurd (omega (arith, some)))

-- the left cumulatives and the total follow them
pub begins-followed : (bits precision width count : ℕ) (lefts slots table : List ℕ) → HasSlots width count lefts slots
    → table ≡ slots ++ with_total bits precision lefts → BeginsWithSlots bits precision width count lefts table
begins-followed bits precision width count lefts slots table s e =
    begins-slots bits precision width count lefts slots (with_total bits precision lefts) table s e (λ _. refl)

module _ (lefts : List ℕ) (up : IsStrictlyIncreasing lefts) (width slot first : ℕ) (known : List ℕ)
    (p : IsSlotPart lefts width slot first known) where
  part-within : first + length known ≤ length lefts
  part-within = omega (arith, p.long, p.rows.to.in_bounds)

  part-at : (i : ℕ) → i < length known → get_or known i 0 ≡ get_or lefts (first + i) 0
  part-at i h =
      ap (λ xs. get_or xs i 0) p.in_order ∙ get_or-take (length known) (drop first lefts) i 0 h ∙ get_or-drop first lefts i 0

  part-some : 0 < length known
  part-some = omega (arith, p.long, slot-order lefts width slot first p.last p.rows)

  -- the rows that meet a slot can be searched for its quantiles
  pub part-searchable : (q : ℕ) → slot * width ≤ q → IsSearchable known q
  part-searchable q low =
      let e : first + 0 ≡ first = omega arith in
      record {
        some = part-some;
        increases = λ k h.
            let b : first + k + 1 < length lefts = omega (arith, part-within) in
            let e : first + (k + 1) ≡ first + k + 1 = omega arith in
            rw (part-at k (omega arith), part-at (k + 1) h, e) (up (first + k) b);
        begins = rw (part-at 0 part-some, e) (omega (arith, p.rows.from.at_most));
      }

  -- the row that is found among them is the row among all
  pub part-found : (q i : ℕ) → q ≤ slot * width + (width - 1) → IsLastAtMost known q i → IsLastAtMost lefts q (first + i)
  part-found q i h f = record {
    in_bounds = omega (arith, part-within, f.in_bounds);
    at_most = rw (← part-at i f.in_bounds) f.at_most;
    last = λ j a b. elim (cases_lt p.last j) [
      | inl after ↦ omega (arith, p.rows.to.last j after b)
      | inr inside ↦ (
          let e : first + (j - first) ≡ j = omega arith in
          let g : j - first < length known = omega (arith, p.long) in
          omega (arith, f.last (j - first) (omega arith) g, part-at (j - first) g ∙ ap (λ n. get_or lefts n 0) e))
    ];
  }

module _ {S : Type 0} (bits precision slot_bits : ℕ) (rows : List (Row S)) (t : RowsTile bits precision rows) where
  many : length (map (λ r. r.left) rows) ≡ length rows
  many = tiles-many bits precision rows t

  up : IsStrictlyIncreasing (map (λ r. r.left) rows)
  up = tiles-increase bits precision rows t

  module _ (j first : ℕ) (known : List ℕ)
      (p : IsSlotPart (map (λ r. r.left) rows) (slot_width precision slot_bits) j first known) where
    meets-in : (i : ℕ) (r : Row S) → i < length rows → IsTile precision rows i r → MeetsSlot (slot_width precision slot_bits) j r
        → (first ≤ i) × (i < p.last + 1)
    meets-in i r h tile m =
        let lefts : List ℕ = map (λ r. r.left) rows in
        let from = p.rows.from in
        let to = p.rows.to in
        let b : i < length lefts = omega (arith, many) in
        let lower : first ≤ i = elim (cases_lt i first) [
          | inl before ↦ (
              let next = tile.next (omega (arith, many, from.in_bounds)) in
              elim (cases_lt (i + 1) first) [
                | inl more ↦ absurd (omega (arith, later lefts (i + 1) first up more from.in_bounds, from.at_most, m.in_slot, m.in_row))
                | inr same ↦ (
                    let is : i + 1 ≡ first = omega arith in
                    absurd (omega (arith, ap (λ n. get_or lefts n 0) is, from.at_most, m.in_slot, m.in_row)))
              ])
          | inr not ↦ not
        ] in
        let upper : i < p.last + 1 = elim (cases_lt p.last i) [
          | inl after ↦ absurd (omega (arith, to.last i after b, tile.left, m.in_slot, m.in_row, pow_pos (precision - slot_bits)))
          | inr not ↦ omega arith
        ] in
        (lower, upper)

    in-meets : (i : ℕ) (r : Row S) → i < length rows → IsTile precision rows i r → j < slot_count precision slot_bits
        → first ≤ i → i < p.last + 1 → MeetsSlot (slot_width precision slot_bits) j r
    in-meets i r h tile jb lower upper =
        let lefts : List ℕ = map (λ r. r.left) rows in
        let from = p.rows.from in
        let to = p.rows.to in
        let width : ℕ = slot_width precision slot_bits in
        let wide : 0 < width = pow_pos (precision - slot_bits) in
        let b : i < length lefts = omega (arith, many) in
        elim (cases_lt first i) [
          | inl more ↦ (
              let low : get_or lefts i 0 ≤ j * width + (width - 1) = elim (cases_lt i p.last) [
                | inl before ↦ omega (arith, later lefts i p.last up before to.in_bounds, to.at_most)
                | inr same ↦ (let is : p.last ≡ i = omega arith in rw (← is) to.at_most)
              ] in
              record {
                quantile = get_or lefts i 0;
                in_slot = (omega (arith, from.last i more b), omega arith);
                in_row = (omega (arith, tile.left), omega (arith, tile.left, tile.positive));
              })
          | inr same ↦ (
              let is : first ≡ i = omega arith in
              let low : get_or lefts i 0 ≤ j * width = rw (← is) from.at_most in
              let high : j * width < r.left + r.weight = elim (cases_lt (i + 1) (length rows)) [
                | inl before ↦ omega (arith, tile.next before, from.last (i + 1) (omega arith) (omega (arith, many)))
                | inr end ↦ omega (arith, tile.last (omega arith), slot-within precision slot_bits j jb)
              ] in
              record { quantile = j * width; in_slot = (omega arith, omega arith); in_row = (omega (arith, tile.left), high) })
        ]

    -- the list covers the rows that meet the slot, and no others
    pub slot-tells : j < slot_count precision slot_bits → TellsRows rows (MeetsSlot (slot_width precision slot_bits) j) first known
    slot-tells jb = record {
      exactly = λ i d h.
          let tile = tile-at bits precision rows t i d h in (
            (λ m. let c = meets-in i _ h tile m in (c.0, omega (arith, p.long, c.1))),
            (λ c. in-meets i _ h tile jb c.0 (omega (arith, p.long, c.1))),
          );
      within = omega (arith, p.long, p.rows.to.in_bounds, many);
      in_order = p.in_order;
    }

    slot-searchable : (q : ℕ) → j * slot_width precision slot_bits ≤ q → IsSearchable known q
    slot-searchable q low =
        part-searchable (map (λ r. r.left) rows) up (slot_width precision slot_bits) j first known p q low

    slot-found : (q i : ℕ) → q < 2 ^ precision
        → q ≤ j * slot_width precision slot_bits + (slot_width precision slot_bits - 1) → IsLastAtMost known q i
        → IsRowIndexOf rows q (first + i)
    slot-found q i below high f =
        tiles-found bits precision rows t q (first + i) below
        (part-found (map (λ r. r.left) rows) up (slot_width precision slot_bits) j first known p q i high f)

  -- a probe of the rows that meet the slot of a quantile
  pub slot-probed : (q first : ℕ) (lefts known : List ℕ) → lefts ≡ map (λ r. r.left) rows → q < 2 ^ precision
      → IsSlotPart lefts (slot_width precision slot_bits) (q / slot_width precision slot_bits) first known
      → TellsRows rows (MeetsSlot (slot_width precision slot_bits) (q / slot_width precision slot_bits)) first known
      × IsSearchable known q
      × ((i : ℕ) → IsLastAtMost known q i → IsRowIndexOf rows q (first + i))
  slot-probed q first lefts known e below part =
      let p = rw e at part in (
        slot-tells (q / slot_width precision slot_bits) first known p (slot-below precision slot_bits q below),
        slot-searchable (q / slot_width precision slot_bits) first known p q (slot-from precision slot_bits q),
        (λ i f. slot-found (q / slot_width precision slot_bits) first known p q i below (slot-to precision slot_bits q) f),
      )
