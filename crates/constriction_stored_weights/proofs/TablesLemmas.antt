-- Texts of tables: their bits and their padding.
use Rattle.std.proofs.Common.{◌≡◌, ℕ, ◌%◌, ◌^◌, ◌<◌, ◌≤◌, List, [], ◌++◌, length, replicate, take, drop, sym, ap, ◌∙◌, subst, arith, append-nil, append_assoc, length-append, length-take, refl}
use Rattle.std.proofs.Math.Nat.{pow-le-pow_right}
use Rattle.std.proofs.lemmas.List.{append_cancel_left, append_cancel_right, take-append-drop, take_at, length-replicate}
use Rattle.constriction_stored_weights.specs.Bits.{bits, bits_of_bytes}
use Rattle.constriction_stored_weights.specs.Tables.{weight_bits, IsTableText, BeginsWithTable, EndsInTable}
use Rattle.constriction_stored_weights.specs.private.Entries.{BeginsWithWeights, EndsInTableBits}
use Rattle.constriction_stored_weights.proofs.BitsLemmas.{apart, no_bits, length-bits, bits_of_bytes-append, length-bits_of_bytes, zero_bits, none_left}
use Rattle.constriction_stored_weights.proofs.EntriesLemmas.{same_weights}

pub bits_of_table : (precision count : ℕ) (whole bytes more : List ℕ) → whole ≡ bytes ++ more
    → (table : BeginsWithTable precision count whole)
    → bits 0 0 ++ bits_of_bytes bytes ++ bits_of_bytes more
    ≡ weight_bits 0 table.weights ++ (replicate table.is_text.padding 0 ++ bits_of_bytes table.rest)
bits_of_table precision count whole bytes more e table =
    ap (λ xs. xs ++ bits_of_bytes bytes ++ bits_of_bytes more) (no_bits 0) ∙ sym (bits_of_bytes-append bytes more)
    ∙ ap bits_of_bytes (sym e ∙ table.bytes_are) ∙ bits_of_bytes-append table.text table.rest
    ∙ ap (λ xs. xs ++ bits_of_bytes table.rest) table.is_text.bits_are
    ∙ append_assoc (weight_bits 0 table.weights) (replicate table.is_text.padding 0) (bits_of_bytes table.rest)

-- the bits that bytes and more of them begin with
abbrev pub begins_with_weights : (precision count : ℕ) (whole bytes more : List ℕ) → whole ≡ bytes ++ more
    → (table : BeginsWithTable precision count whole)
    → BeginsWithWeights precision count (bits 0 0 ++ bits_of_bytes bytes ++ bits_of_bytes more)
begins_with_weights precision count whole bytes more e table = record {
  weights = table.weights;
  rest = replicate table.is_text.padding 0 ++ bits_of_bytes table.rest;
  is_table = table.is_table;
  counted = table.counted;
  bits_are = bits_of_table precision count whole bytes more e table;
}

-- bytes that begin with a table begin with its weights' bits
pub begins_alone : (precision count : ℕ) (bytes : List ℕ) → BeginsWithTable precision count bytes
    → BeginsWithWeights precision count (bits 0 0 ++ bits_of_bytes bytes)
begins_alone precision count bytes table =
    subst (BeginsWithWeights precision count) (append-nil (bits 0 0 ++ bits_of_bytes bytes))
    (begins_with_weights precision count bytes bytes [] (sym (append-nil bytes)) table)

-- bytes whose bits end within an entry end in a table
pub ends_in_table : (precision count : ℕ) (bytes : List ℕ) → EndsInTableBits precision count (bits 0 0 ++ bits_of_bytes bytes)
    → EndsInTable precision count bytes
ends_in_table precision count bytes cut = record {
  weights = cut.weights;
  run = cut.run;
  weight = cut.weight;
  more = cut.more;
  below = cut.below;
  room = cut.room;
  some = cut.some;
  goes_on = cut.goes_on;
  bits_are = ap (λ xs. xs ++ bits_of_bytes bytes ++ cut.more) (sym (no_bits 0)) ∙ cut.bits_are;
}

-- texts of the same weights are as long
pub same_length : (weights others text longer : List ℕ) → others ≡ weights → IsTableText weights text → IsTableText others longer
    → length longer ≡ length text
same_length weights others text longer e a b =
    let a-fills = a.fills in
    let b-fills = b.fills in
    omega (
      arith,
      ap length a.bits_are,
      length-bits_of_bytes text,
      length-append (weight_bits 0 weights) (replicate a.padding 0),
      length-replicate {A = ℕ} a.padding 0,
      ap length b.bits_are,
      length-bits_of_bytes longer,
      length-append (weight_bits 0 others) (replicate b.padding 0),
      length-replicate {A = ℕ} b.padding 0,
      ap (λ xs. length (weight_bits 0 xs)) e,
    )

-- of bytes that begin with texts of the same weights, these are the same bytes
pub same_text : (weights others bytes text rest : List ℕ) (next : ℕ) → others ≡ weights → next ≤ length bytes
    → IsTableText weights (take next bytes)
    → IsTableText others text → bytes ≡ text ++ rest → text ≡ take next bytes
same_text weights others bytes text rest next e within a b bytes_are =
    let long : length text ≡ next = omega (arith, same_length weights others (take next bytes) text e a b, length-take next bytes) in
    sym (ap (take next) bytes_are ∙ take_at text rest next long)

-- the bytes of which bits were read, if those that were not are zeros
pub text_read : (bytes weights : List ℕ) (next byte left : ℕ) → left < 8 → byte % 2 ^ left ≡ 0
    → bits 0 0 ++ bits_of_bytes bytes ≡ weight_bits 0 weights ++ (bits left byte ++ bits_of_bytes (drop next bytes))
    → IsTableText weights (take next bytes)
text_read bytes weights next byte left fills none e =
    let front = take next bytes in
    let back = bits_of_bytes (drop next bytes) in
    record {
      padding = left;
      fills = fills;
      bits_are =
          append_cancel_right (bits_of_bytes front) (weight_bits 0 weights ++ replicate left 0) back
          (sym (bits_of_bytes-append front (drop next bytes)) ∙ ap bits_of_bytes (take-append-drop next bytes)
          ∙ sym (ap (λ xs. xs ++ bits_of_bytes bytes) (no_bits 0)) ∙ e
          ∙ ap (λ xs. weight_bits 0 weights ++ (xs ++ back)) (zero_bits left byte none)
          ∙ sym (append_assoc (weight_bits 0 weights) (replicate left 0) back));
    }

-- bytes whose first table has these weights have zeros after them
pub zeros_after : (precision count : ℕ) (bytes more weights : List ℕ) (next byte left : ℕ) → left < 8
    → bits 0 0 ++ bits_of_bytes bytes ≡ weight_bits 0 weights ++ (bits left byte ++ bits_of_bytes (drop next bytes))
    → (table : BeginsWithTable precision count (bytes ++ more)) → table.weights ≡ weights → byte % 2 ^ left ≡ 0
zeros_after precision count bytes more weights next byte left fills e table same =
    let back = bits_of_bytes (drop next bytes) in
    let padding = table.is_text.padding in
    let padding_fills = table.is_text.fills in
    let written = weight_bits 0 weights in
    let text_is : bits_of_bytes table.text ≡ written ++ replicate padding 0 =
    table.is_text.bits_are ∙ ap (λ xs. weight_bits 0 xs ++ replicate padding 0) same in
    let whole : bits_of_bytes bytes ≡ written ++ (bits left byte ++ back) =
    sym (ap (λ xs. xs ++ bits_of_bytes bytes) (no_bits 0)) ∙ e in
    let as_many : left ≡ padding =
    omega (
      arith,
      ap length text_is,
      length-bits_of_bytes table.text,
      length-append written (replicate padding 0),
      length-replicate {A = ℕ} padding 0,
      ap length whole,
      length-bits_of_bytes bytes,
      length-append written (bits left byte ++ back),
      length-append (bits left byte) back,
      length-bits left byte,
      length-bits_of_bytes (drop next bytes),
    ) in
    let both : bits left byte ++ (back ++ bits_of_bytes more) ≡ replicate padding 0 ++ bits_of_bytes table.rest =
    append_cancel_left written (bits left byte ++ (back ++ bits_of_bytes more)) (replicate padding 0 ++ bits_of_bytes table.rest)
    (ap (λ xs. written ++ xs) (sym (append_assoc (bits left byte) back (bits_of_bytes more)))
    ∙ sym (append_assoc written (bits left byte ++ back) (bits_of_bytes more)) ∙ sym (ap (λ xs. xs ++ bits_of_bytes more) whole)
    ∙ sym (bits_of_bytes-append bytes more) ∙ ap bits_of_bytes table.bytes_are ∙ bits_of_bytes-append table.text table.rest
    ∙ ap (λ xs. xs ++ bits_of_bytes table.rest) text_is ∙ append_assoc written (replicate padding 0) (bits_of_bytes table.rest)) in
    let zeros = apart left (bits left byte) (replicate padding 0) _ _ (length-bits left byte) (length-replicate padding 0 ∙ sym as_many)
    both in
    none_left left byte (zeros.0 ∙ ap (λ k. replicate k 0) (sym as_many))

-- bytes begin with one table of as many weights
pub table_once : (precision count : ℕ) (bytes : List ℕ) → precision ≤ 14 → (table other : BeginsWithTable precision count bytes)
    → (table.weights ≡ other.weights) × (table.text ≡ other.text)
table_once precision count bytes small table other =
    let most = pow-le-pow_right {n = 2} (omega arith) small in
    let few = table.is_table.few in
    let total = table.is_table.total in
    let other-total = other.is_table.total in
    let counted = table.counted in
    let other-counted = other.counted in
    let same = same_weights (length table.weights) table.weights other.weights _ _ (omega arith) few (omega arith) (omega arith)
    (omega arith) (sym (bits_of_table precision count bytes bytes [] (sym (append-nil bytes)) table)
    ∙ bits_of_table precision count bytes bytes [] (sym (append-nil bytes)) other) in
    let long : length table.text ≡ length other.text =
    same_length other.weights table.weights other.text table.text same other.is_text table.is_text in (
      same,
      sym (take_at table.text table.rest (length table.text) refl) ∙ ap (take (length table.text)) (sym table.bytes_are ∙ other.bytes_are)
          ∙ take_at other.text other.rest (length table.text) (sym long),
    )
