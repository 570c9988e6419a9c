use Rattle.std.proofs.Common.{◌≡◌, ℕ, ◌-◌, ◌++◌, ap, ◌∙◌, arith, refl}
use Rattle.std.proofs.lemmas.Result.{on_ok_weaker}
use Rattle.std.specs.Int.{w32, leading_zeros}
use Rattle.constriction_stored_weights.specs.Bits.{bits}
use Rattle.constriction_stored_weights.specs.Tables.{bit_length, number_bits}
use Rattle.constriction_stored_weights.specs.private.Places.{held}
use Rattle.constriction_stored_weights.proofs.BitsLemmas.{added_twice}
use Rattle.constriction_stored_weights.proofs.NumbersLemmas.{short, bits_of_number}
use Rattle.constriction_stored_weights.proofs.writing.push_number.Goals as goal

is_length : (n : ℕ) → 32 - leading_zeros w32 n ≡ bit_length n
unfolding bit_length
is_length n = refl

pub push_bits-requires-2 : goal.push_bits-requires-2
push_bits-requires-2 c = omega (arith, short c.args.number c.requires, is_length c.args.number, c.saturating_sub.ensures)

pub returns-clause-ok : goal.returns-clause-ok
returns-clause-ok c =
    let n = c.args.number in
    let old = held c.args.bytes.now.items c.args.place.now in
    let mid = held c.push_bits.new.bytes.items c.push_bits.new.place in
    let below : c.saturating_sub.result ≡ bit_length n - 1 = c.saturating_sub.ensures ∙ ap (λ k. k - 1) (is_length n) in
    on_ok_weaker c.push_bits-2.result
    (λ pushed. added_twice old mid (held c.push_bits-2.new.bytes.items c.push_bits-2.new.place) (bits 4 (bit_length n))
    (bits (bit_length n - 1) n) (number_bits n) (c.in_ok-push_bits.ensures.ok ∙ ap (λ k. old ++ bits 4 k) (is_length n))
    (pushed ∙ ap (λ k. mid ++ bits k n) below) (bits_of_number n))
    c.push_bits-2.ensures.ok
