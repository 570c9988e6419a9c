-- Filling the table of slots.
use Rattle.std.proofs.Common.{◌≡◌, ◌↔◌, ℕ, ◌+◌, ◌-◌, ◌*◌, ◌/◌, ◌^◌, ◌<◌, ◌≤◌, ◌⊎◌, suc, zero, min, List, ◌∷◌, ◌++◌, length, replicate, [], map, get_or, ap, sym, refl, ◌∙◌, arith, inl, inr, add-one}
use Rattle.std.proofs.Math.Nat.{mul_comm, mul-le-mul_right, div-lt_iff_lt-mul, lt-div-mul-add}
use Rattle.std.proofs.lemmas.Bool.{cases_lt}
use Rattle.std.proofs.lemmas.Nat.{pow-add, pow_pos}
use Rattle.std.proofs.lemmas.List.{length-map, length-append, length-replicate, map-append, get_or_append_left, get_or-append_right, get_or-replicate, append-nil, append_assoc, replicate_more}
use Rattle.std.specs.List.Sorted.{IsStrictlyIncreasing}
use Rattle.constriction_model.specs.Probe.{IsLastAtMost}
use Rattle.constriction_stored_rows.specs.Slots.{slot_width, slot_count}
use Rattle.constriction_stored_rows.specs.lemmas.Stored.{read-whole}
use Rattle.constriction_stored_rows.specs.SlotTable.{words_a_slot, HasWords, HasSlots, IsFirstWord}
use Rattle.constriction_model.proofs.Halving.{later}

-- a slot ends one width after it begins
slot-more : (j w : ℕ) → (j + 1) * w ≡ j * w + w
slot-more j w = rw add-one (omega arith)

slot-end : (j n w : ℕ) → j < n → j * w + w ≤ n * w
slot-end j n w h =
    let more : suc j * w ≤ n * w = mul-le-mul_right w (let g : suc j ≤ n = omega arith in g) in
    omega arith

-- all slots together hold the quantiles below 2 ^ precision
slots-all : (precision slot_bits : ℕ) → slot_count precision slot_bits * slot_width precision slot_bits ≡ 2 ^ precision
slots-all precision slot_bits =
    let count : ℕ = min precision slot_bits in
    let width : ℕ = precision - slot_bits in
    let e : count + width ≡ precision = omega arith in
    let split : 2 ^ (count + width) ≡ 2 ^ count * 2 ^ width = pow-add 2 count width in
    rw (← split) (ap (λ n. 2 ^ n) e)

-- a slot lies below 2 ^ precision
pub slot-within : (precision slot_bits j : ℕ) → j < slot_count precision slot_bits
    → j * slot_width precision slot_bits + slot_width precision slot_bits ≤ 2 ^ precision
slot-within precision slot_bits j h =
    rw (← slots-all precision slot_bits) (slot-end j (slot_count precision slot_bits) (slot_width precision slot_bits) h)

-- the last slot ends at 2 ^ precision
last-slot : (precision slot_bits : ℕ)
    → (slot_count precision slot_bits - 1 + 1 ≡ slot_count precision slot_bits)
    × ((slot_count precision slot_bits - 1) * slot_width precision slot_bits + slot_width precision slot_bits ≡ 2 ^ precision)
last-slot precision slot_bits =
    let count : ℕ = slot_count precision slot_bits in
    let width : ℕ = slot_width precision slot_bits in
    let some : 0 < count = pow_pos (min precision slot_bits) in
    let one : count - 1 + 1 ≡ count = omega arith in
    (one, sym (slot-more (count - 1) width) ∙ ap (λ k. k * width) one ∙ slots-all precision slot_bits)

-- a slot has one word or two
pub words-cases : (w : ℕ) → 0 < w → ((w ≡ 1) × (words_a_slot w ≡ 1)) ⊎ ((1 < w) × (words_a_slot w ≡ 2))
words-cases w some = elim (cases_lt 1 w) [
  | inl more ↦ inr (more, omega arith)
  | inr one ↦ inl (omega arith, omega arith)
]

-- there are no more words than quantiles
pub words-most : (precision slot_bits : ℕ)
    → words_a_slot (slot_width precision slot_bits) * slot_count precision slot_bits ≤ 2 ^ precision
words-most precision slot_bits =
    let w : ℕ = slot_width precision slot_bits in
    let n : ℕ = slot_count precision slot_bits in
    let most : words_a_slot w * n ≤ w * n = mul-le-mul_right n (let g : words_a_slot w ≤ w = omega arith in g) in
    rw (← slots-all precision slot_bits) (rw (mul_comm w n) at most)

-- the last word of the last slot is the last word of all
last-word : (u last count : ℕ) → 0 < u → last + 1 ≡ count → u * last + (u - 1) + 1 ≡ u * count
last-word u last count some e =
    let all : (last + 1) * u ≡ last * u + u = slot-more last u in
    let left : u * last ≡ last * u = mul_comm u last in
    let right : u * count ≡ (last + 1) * u = mul_comm u count ∙ ap (λ n. n * u) (sym e) in
    omega (arith, all, left, right)

-- a quotient, rounded down, by its bounds
pub whole-part : (w n j : ℕ) → 0 < w → (n / w ≤ j) ↔ (n < j * w + w)
whole-part w n j some =
    let more = slot-more j w in
    let bound = div-lt_iff_lt-mul {k = w} {x = n} {y = j + 1} some in (
      (λ h. let below = bound.0 (omega arith) in omega (arith, below, more)),
      (λ h. let less = bound.1 (omega (arith, more)) in omega (arith, less)),
    )

-- the first word for a left cumulative, if a slot has two words: the quotient by the width, rounded down, plus the same rounded up
module _ (w left : ℕ) (some : 0 < w) where
  up-least : left / w ≤ (left + (w - 1)) / w
  up-least =
      let up : left + (w - 1) < (left + (w - 1)) / w * w + w = lt-div-mul-add some in
      (whole-part w left ((left + (w - 1)) / w) some).1 (omega arith)

  -- the first slot that begins at or after a row's is at most the next one
  pub up-most : (left + (w - 1)) / w ≤ left / w + 1
  up-most =
      let down : left < left / w * w + w = lt-div-mul-add some in
      (whole-part w (left + (w - 1)) (left / w + 1) some).1 (omega (arith, slot-more (left / w) w))

  -- with two words a slot, a row's first word is found by two divisions
  pub first-word : words_a_slot w ≡ 2 → IsFirstWord w left (left / w + (left + (w - 1)) / w)
  first-word two = record {
    first = λ j.
        let up = whole-part w (left + (w - 1)) j some in
        rw two (
          (λ h. let below = up.0 (omega (arith, up-most)) in omega arith),
          (λ h. let below = up.1 (omega arith) in omega (arith, up-least)),
        );
    last = λ j.
        let down = whole-part w left j some in
        rw two (
          (λ h. let below = down.0 (omega (arith, up-least)) in omega arith),
          (λ h. let below = down.1 (omega arith) in omega (arith, up-most)),
        );
  }

-- the same if a slot has one word
pub first-alone : (left : ℕ) → IsFirstWord 1 left left
first-alone left = record {
  first = λ j. ((λ h. omega arith), (λ h. omega arith));
  last = λ j. ((λ h. omega arith), (λ h. omega arith));
}

-- every number is even or odd
parity : (n : ℕ) → ((j : ℕ) × (n ≡ 2 * j)) ⊎ ((j : ℕ) × (n ≡ 2 * j + 1))
parity zero = inl (0, refl)
parity (suc n) = elim (parity n) [
  | inl even ↦ inr (even.0, omega (arith, even.1))
  | inr odd ↦ inl (odd.0 + 1, omega (arith, odd.1))
]

-- every word is the first or the last one of a slot
word-cases : (w n : ℕ) → 0 < w
    → ((j : ℕ) × (n ≡ words_a_slot w * j)) ⊎ ((j : ℕ) × (n ≡ words_a_slot w * j + (words_a_slot w - 1)))
word-cases w n some = elim (words-cases w some) [
  | inl one ↦ inl (n, rw one.1 (omega arith))
  | inr two ↦ rw two.1 (parity n)
]

-- a greater left cumulative has no earlier first word
word-order : (w a b x y : ℕ) → 0 < w → IsFirstWord w a x → IsFirstWord w b y → a ≤ b → x ≤ y
word-order w a b x y some f g h = elim (word-cases w y some) [
  | inl even ↦ (
      let here : y ≤ words_a_slot w * even.0 = rw even.1 (omega arith) in
      let at : b ≤ even.0 * w = (g.first even.0).0 here in
      let from : x ≤ words_a_slot w * even.0 = (f.first even.0).1 (omega arith) in
      rw even.1 from)
  | inr odd ↦ (
      let here : y ≤ words_a_slot w * odd.0 + (words_a_slot w - 1) = rw odd.1 (omega arith) in
      let at : b ≤ odd.0 * w + (w - 1) = (g.last odd.0).0 here in
      let from : x ≤ words_a_slot w * odd.0 + (words_a_slot w - 1) = (f.last odd.0).1 (omega arith) in
      rw odd.1 from)
]

-- the first word of the next row is no earlier
pub next-word : (w : ℕ) (lefts : List ℕ) (row next x y : ℕ) → 0 < w → IsStrictlyIncreasing lefts → row + 1 ≡ next
    → next < length lefts
    → IsFirstWord w (get_or lefts row 0) x → IsFirstWord w (get_or lefts next 0) y → x ≤ y
next-word w lefts row next x y some up e b from to =
    word-order w (get_or lefts row 0) (get_or lefts next 0) x y some from to (omega (arith, later lefts row next up (omega arith) b))

-- the first word of an entry's row, by the number of its left cumulative
pub entry-word : {Entry : Type 0} (cumulative : Entry → ℕ) (w : ℕ) (entries : List Entry) (i : ℕ) (entry : Entry) (number word : ℕ)
    → i < length entries → entry ≡ get_or entries i entry → number ≡ cumulative entry
    → IsFirstWord w number word → IsFirstWord w (get_or (map cumulative entries) i 0) word
entry-word cumulative w entries i entry number word h is same from =
    rw (read-whole cumulative entries i entry h is ∙ sym same) from

-- a table without words has those before the first word of the first row
pub no-words : (w : ℕ) (lefts table : List ℕ) (left : ℕ) → length table ≡ 0 → left ≡ 0
    → HasWords w lefts table × IsFirstWord w left (length table)
no-words w lefts table left none is = (
  record { first = λ j b. absurd (omega arith); last = λ j b. absurd (omega arith) },
  record { first = λ j. ((λ h. omega arith), (λ h. omega arith)); last = λ j. ((λ h. omega arith), (λ h. omega arith)) },
)

-- the table has all words before the first one of a row
pub word-within : (precision slot_bits left word : ℕ) → IsFirstWord (slot_width precision slot_bits) left word
    → left < 2 ^ precision
    → word ≤ words_a_slot (slot_width precision slot_bits) * slot_count precision slot_bits
word-within precision slot_bits left word from h =
    (from.first (slot_count precision slot_bits)).1 (omega (arith, slots-all precision slot_bits))

-- a list that increases is nowhere below its indices
pub index-most : (xs : List ℕ) (i : ℕ) → IsStrictlyIncreasing xs → i < length xs → i ≤ get_or xs i 0
index-most xs zero up h = omega arith
index-most xs (suc i) up h =
    let e : suc i ≡ i + 1 = omega arith in
    rw e (omega (arith, index-most xs i up (omega arith), up i (omega arith)))

-- the row at i holds q: the next one begins above it, or there is none
last-before : (xs : List ℕ) (q i : ℕ) → IsStrictlyIncreasing xs → i < length xs → get_or xs i 0 ≤ q
    → (i + 1 < length xs → q < get_or xs (i + 1) 0) → IsLastAtMost xs q i
last-before xs q i up h low above = record {
  in_bounds = h;
  at_most = low;
  last = λ j a b. elim (cases_lt (i + 1) j) [
    | inl more ↦ omega (arith, later xs (i + 1) j up more b, above (omega arith))
    | inr no_more ↦ (let is : i + 1 ≡ j = omega arith in rw (← is) (above (omega arith)))
  ];
}

-- a row fills the words from its first word up to the first word of the next row
module _ (w : ℕ) (lefts table : List ℕ) (row n : ℕ) (up : IsStrictlyIncreasing lefts) (in_bounds : row < length lefts)
    (t : HasWords w lefts table)
    (from : IsFirstWord w (get_or lefts row 0) (length table))
    (next : row + 1 < length lefts → (end : ℕ) × IsFirstWord w (get_or lefts (row + 1) 0) end × (length table + n ≤ end)) where
  long : length (table ++ replicate n row) ≡ length table + n
  long = length-append table (replicate n row) ∙ ap (λ k. length table + k) (length-replicate n row)

  old-word : (i : ℕ) → i < length table → get_or (table ++ replicate n row) i 0 ≡ get_or table i 0
  old-word i h = get_or_append_left table (replicate n row) 0 i h

  new-word : (i : ℕ) → length table ≤ i → i < length (table ++ replicate n row) → get_or (table ++ replicate n row) i 0 ≡ row
  new-word i h b =
      get_or-append_right table (replicate n row) (length table) i 0 refl h
      ∙ get_or-replicate n (i - length table) row 0 (omega (arith, long))

  words-more : HasWords w lefts (table ++ replicate n row)
  words-more = record {
    first = λ j b. elim (cases_lt (words_a_slot w * j) (length table)) [
      | inl old ↦ rw (old-word (words_a_slot w * j) old) (t.first j old)
      | inr new ↦ rw (new-word (words_a_slot w * j) new b) (last-before lefts (j * w) row up in_bounds ((from.first j).0 new) (λ h.
          let x = next h in
          elim (cases_lt (j * w) (get_or lefts (row + 1) 0)) [
            | inl above ↦ above
            | inr not ↦ (let most : x.0 ≤ words_a_slot w * j = (x.1.first j).1 not in absurd (omega (arith, x.2, long, b)))
          ]))
    ];
    last = λ j b.
        let word : ℕ = words_a_slot w * j + (words_a_slot w - 1) in
        let end : ℕ = j * w + (w - 1) in
        elim (cases_lt word (length table)) [
          | inl old ↦ rw (old-word word old) (t.last j old)
          | inr new ↦ rw (new-word word new b) (last-before lefts end row up in_bounds ((from.last j).0 new) (λ h.
              let x = next h in
              elim (cases_lt end (get_or lefts (row + 1) 0)) [
                | inl above ↦ above
                | inr not ↦ (let most : x.0 ≤ word = (x.1.last j).1 not in absurd (omega (arith, x.2, long, b)))
              ]))
        ];
  }

map-replicate : {A B : Type 0} (f : A → B) (n : ℕ) (x : A) → map f (replicate n x) ≡ replicate n (f x)
map-replicate f zero x = refl
map-replicate f (suc n) x = ap (λ xs. f x ∷ xs) (map-replicate f n x)

-- no word of a row yet
pub filled-none : {W : Type 0} (items : List W) (row : W) (from to : ℕ) → to ≡ from → items ≡ items ++ replicate (to - from) row
filled-none items row from to is =
    let none : to - from ≡ 0 = omega arith in
    sym (ap (λ n. items ++ replicate n row) none ∙ append-nil items)

-- one more word of a row
pub filled-next : {W : Type 0} (items filled : List W) (row : W) (from to : ℕ) → from ≤ to
    → filled ≡ items ++ replicate (to - from) row → filled ++ row ∷ [] ≡ items ++ replicate (to + 1 - from) row
filled-next items filled row from to h is =
    let more : to - from + 1 ≡ to + 1 - from = omega arith in
    ap (λ xs. xs ++ row ∷ []) is ∙ append_assoc items (replicate (to - from) row) (row ∷ [])
    ∙ ap (λ xs. items ++ xs) (replicate_more (to - from) row) ∙ ap (λ n. items ++ replicate n row) more

-- what filling up leaves, as numbers
filled-numbers : {W : Type 0} (whole : W → ℕ) (items new : List W) (n : ℕ) (row : W)
    → new ≡ items ++ replicate n row → map whole new ≡ map whole items ++ replicate n (whole row)
filled-numbers whole items new n row is =
    ap (map whole) is ∙ map-append whole items (replicate n row) ∙ ap (λ xs. map whole items ++ xs) (map-replicate whole n row)

module _ {W : Type 0} (whole : W → ℕ) (w : ℕ) (some : 0 < w) (lefts : List ℕ) (items new : List W) (row : W) (n : ℕ)
    (up : IsStrictlyIncreasing lefts) (t : HasWords w lefts (map whole items))
    (from : IsFirstWord w (get_or lefts (whole row) 0) (length items)) (in_bounds : whole row < length lefts)
    (count : ℕ) (counted : count ≡ length items) (new-is : new ≡ items ++ replicate (n - count) row) where
  is : new ≡ items ++ replicate (n - length items) row
  is = rw counted at new-is

  same-long : length (map whole items) ≡ length items
  same-long = length-map items whole

  filled-long : length items ≤ n → length new ≡ n
  filled-long order =
      let long : length (map whole new) ≡ length (map whole items) + (n - length items) =
      ap length (filled-numbers whole items new (n - length items) row is)
      ∙ length-append (map whole items) (replicate (n - length items) (whole row))
      ∙ ap (λ k. length (map whole items) + k) (length-replicate (n - length items) (whole row)) in
      omega (arith, long, same-long, length-map new whole)

  filled-more : (whole row + 1 < length lefts → (end : ℕ) × IsFirstWord w (get_or lefts (whole row + 1) 0) end
      × (length (map whole items) + (n - length items) ≤ end))
      → HasWords w lefts (map whole new)
  filled-more next =
      rw (filled-numbers whole items new (n - length items) row is)
      (words-more w lefts (map whole items) (whole row) (n - length items) up in_bounds t (rw same-long from) next)

  -- another row comes, whose first word is n
  pub row-filled : (next : ℕ) → whole row + 1 ≡ next → next < length lefts → IsFirstWord w (get_or lefts next 0) n
      → HasWords w lefts (map whole new) × (length new ≡ n)
  row-filled next e b to =
      let order : length items ≤ n = next-word w lefts (whole row) next (length items) n some up e b from to in
      (filled-more (λ h. (n, rw e to, omega (arith, same-long))), filled-long order)

  -- it was the last row, and all words are there
  pub all-filled : (precision slot_bits : ℕ) → w ≡ slot_width precision slot_bits
      → n ≡ words_a_slot w * slot_count precision slot_bits
      → whole row + 1 ≡ length lefts → get_or lefts (whole row) 0 < 2 ^ precision
      → HasSlots w (slot_count precision slot_bits) lefts (map whole new)
  all-filled precision slot_bits width count e below =
      let slot = last-slot precision slot_bits in
      let last : ℕ = slot_count precision slot_bits - 1 in
      let total : last * w + w ≡ 2 ^ precision = rw width slot.1 in
      let most : length items ≤ words_a_slot w * last + (words_a_slot w - 1) = (from.last last).1 (omega (arith, total, below, some)) in
      let u : 0 < words_a_slot w = omega arith in
      let end = last-word (words_a_slot w) last (slot_count precision slot_bits) u slot.0 in
      let order : length items ≤ n = omega (arith, most, count, end) in
      record {
        long = length-map new whole ∙ filled-long order ∙ count;
        words = filled-more (λ h. absurd (omega arith));
      }

-- the slot of a quantile is one of the slots
pub slot-below : (precision slot_bits q : ℕ) → q < 2 ^ precision
    → q / slot_width precision slot_bits < slot_count precision slot_bits
slot-below precision slot_bits q h =
    let slot = last-slot precision slot_bits in
    let part = whole-part (slot_width precision slot_bits) q (slot_count precision slot_bits - 1) (pow_pos (precision - slot_bits)) in
    omega (arith, slot.0, part.1 (omega (arith, slot.1)))
