use Rattle.std.proofs.Common.{◌≡◌, ℕ, suc, ◌+◌, ◌-◌, ◌/◌, ◌%◌, ◌^◌, ◌<◌, List, ◌∷◌, ◌++◌, drop, get_or, length, ap, sym, ◌∙◌, arith}
use Rattle.std.proofs.lemmas.List.{drop_more, drop_all, get_or_default}
use Rattle.constriction_stored_weights.specs.Bits.{bits, bits_of_bytes}
use Rattle.constriction_stored_weights.proofs.BitsLemmas.{no_bits, bits-first}
use Rattle.constriction_stored_weights.proofs.reading.read_bit.Goals as goal
use Rattle.constriction_stored_weights.proofs.reading.read_bit.Goals.{then-place-gt0, else-place-gt0+then-place-bytes}

first : (left byte : ℕ) → 0 < left → bits left byte ≡ byte / 2 ^ (left - 1) % 2 ∷ bits (left - 1) byte
first left byte h = let more : left ≡ suc (left - 1) = omega arith in ap (λ k. bits k byte) more ∙ bits-first (left - 1) byte

-- a byte of which all bits are left
loaded : (bytes : List ℕ) (next left byte old : ℕ) → left ≡ 0 → next < length bytes → byte ≡ get_or bytes next byte
    → bits left old ++ bits_of_bytes (drop next bytes) ≡ bits 8 byte ++ bits_of_bytes (drop (next + 1) bytes)
loaded bytes next left byte old none h read =
    ap (λ k. bits k old ++ bits_of_bytes (drop next bytes)) none ∙ ap (λ xs. xs ++ bits_of_bytes (drop next bytes)) (no_bits old)
    ∙ ap bits_of_bytes (drop_more bytes next byte h) ∙ ap (λ k. bits 8 k ++ bits_of_bytes (drop (next + 1) bytes)) (sym read)

pub returns-else-place-bytes-clause-none : goal.returns-else-place-bytes-clause-none
returns-else-place-bytes-clause-none c = λ is.
    let place = c.args.place.now in
    let none : place.left ≡ 0 = omega arith in
    ap (λ k. bits k place.byte ++ bits_of_bytes (drop place.next c.args.bytes.now)) none
    ∙ ap (λ xs. xs ++ bits_of_bytes (drop place.next c.args.bytes.now)) (no_bits place.byte)
    ∙ ap bits_of_bytes (drop_all place.next c.args.bytes.now c.if-place-bytes.false)

pub returns-clause-some : goal.returns-clause-some
returns-clause-some c =
    let bytes = c.args.bytes.now in
    let place = c.args.place.now in (
      elim c.if-place-gt0.branch [
        | then-place-gt0 w ↦
            rw w.next-is (ap (λ xs. xs ++ bits_of_bytes (drop place.next bytes)) (first place.left place.byte w.if-place-gt0.true))
        | else-place-gt0+then-place-bytes w ↦
            let none : place.left ≡ 0 = omega arith in
            let byte = get_or bytes place.next 0 in
            rw w.next-is (loaded bytes place.next place.left byte place.byte none w.if-place-bytes.true
            (get_or_default bytes place.next 0 byte w.if-place-bytes.true)
            ∙ ap (λ xs. xs ++ bits_of_bytes (drop (place.next + 1) bytes)) (bits-first 7 byte))
      ],
      omega arith,
    )
