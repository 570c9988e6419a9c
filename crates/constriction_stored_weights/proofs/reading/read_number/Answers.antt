use Rattle.std.proofs.Common.{◌≡◌, ℕ, suc, ◌+◌, ◌-◌, ◌*◌, ◌^◌, ◌<◌, ◌≤◌, List, ◌++◌, Option, None, Some, IfSome, ap, sym, ◌∙◌, arith, append_assoc, pow-suc, refl}
use Rattle.std.proofs.Math.Nat.{pow-le-pow_right}
use Rattle.constriction_stored_weights.specs.Bits.{bits}
use Rattle.constriction_stored_weights.specs.Tables.{number_bits}
use Rattle.constriction_stored_weights.specs.private.Places.{upcoming}
use Rattle.constriction_stored_weights.proofs.NumbersLemmas.{zero_number, number_of_length, ends_in_length, ends_in_bits}
use Rattle.constriction_stored_weights.proofs.reading.read_number.Goals as goal

pub returns-then-length-eq0-clause-some : goal.returns-then-length-eq0-clause-some
returns-then-length-eq0-clause-some c = (
  omega arith,
  c.in_ok-length.ensures.some.0 ∙ ap (λ k. bits 4 k ++ upcoming c.args.bytes.now c.read_bits.new.place) c.if-length-eq0.true
      ∙ ap (λ xs. xs ++ upcoming c.args.bytes.now c.read_bits.new.place) (sym zero_number),
)

-- the number that follows its length
followed : (count number : ℕ) (old mid new : List ℕ) → count < 16 → 0 < count → old ≡ bits 4 count ++ mid
    → (mid ≡ bits (count - 1) number ++ new) × (1 * 2 ^ (count - 1) ≤ number) × (number < (1 + 1) * 2 ^ (count - 1))
    → (number < 2 ^ 15) × (old ≡ number_bits number ++ new)
followed count number old mid new few some e read =
    let more : count ≡ suc (count - 1) = omega arith in
    let twice = ap (λ k. 2 ^ k) more ∙ pow-suc 2 (count - 1) in
    let fits : count ≤ 15 = omega arith in
    let most : number < 2 ^ count = omega (arith, twice, read.2) in (
      omega (arith, pow-le-pow_right {n = 2} (omega arith) fits),
      e ∙ ap (λ xs. bits 4 count ++ xs) read.0 ∙ sym (append_assoc (bits 4 count) (bits (count - 1) number) new)
          ∙ ap (λ xs. xs ++ new) (sym (number_of_length number count few some (omega (arith, read.1)) most)),
    )

each : {T : Type 0} (P Q : T → Type 0) (r : Option T) → ((x : T) → P x → Q x) → IfSome r P → IfSome r Q
each P Q None f h = h
each P Q (Some x) f h = f x h

pub returns-clause-some : goal.returns-clause-some
returns-clause-some c =
    let bytes = c.args.bytes.now in
    let count = c.in_ok-length.length in
    let read = c.in_ok-length.ensures.some in
    let some : 0 < count = omega (arith, c.if-length-eq0.false) in
    let few : count < 16 = omega (arith, read.2) in
    each _ _ c.read_bits-2.result
    (λ number. followed count number (upcoming bytes c.args.place.now) (upcoming bytes c.read_bits.new.place)
    (upcoming bytes c.read_bits-2.new.place) few some read.0)
    c.read_bits-2.ensures.some

pub returns-in_err-length-clause-none : goal.returns-in_err-length-clause-none
returns-in_err-length-clause-none c = λ is. ends_in_length (upcoming c.args.bytes.now c.args.place.now) (c.in_err-length.ensures.none refl)

pub returns-clause-none : goal.returns-clause-none
returns-clause-none c =
    let bytes = c.args.bytes.now in
    let read = c.in_ok-length.ensures.some in
    let few : c.in_ok-length.length < 16 = omega (arith, read.2) in
    λ is. ends_in_bits c.in_ok-length.length (upcoming bytes c.args.place.now) (upcoming bytes c.read_bits.new.place) few read.0
    (c.read_bits-2.ensures.none is)
