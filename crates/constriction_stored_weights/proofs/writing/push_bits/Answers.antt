use Rattle.std.proofs.Common.{◌≡◌, ℕ, ◌+◌, ◌-◌, ◌/◌, ◌%◌, ◌^◌, ◌<◌, List, [], ◌∷◌, ◌++◌, ap, sym, ◌∙◌, arith, append-nil, append_assoc}
use Rattle.constriction_stored_weights.specs.Bits.{bits}
use Rattle.constriction_stored_weights.specs.private.Places.{held}
use Rattle.constriction_stored_weights.proofs.BitsLemmas.{no_bits, bits-down, extends_more}
use Rattle.constriction_stored_weights.proofs.writing.push_bits.Goals as goal

pub loop-left-init : goal.loop-left-init
loop-left-init c =
    let none : c.args.count - c.args.count ≡ 0 = omega arith in
    let old = held c.args.bytes.now.items c.args.place.now in
    record {
      few = omega arith;
      extends = ([], sym (append-nil c.args.bytes.now.items));
      so_far =
          sym (ap (λ k. old ++ bits k (c.args.number / 2 ^ c.args.count)) none
          ∙ ap (λ xs. old ++ xs) (no_bits (c.args.number / 2 ^ c.args.count)) ∙ append-nil old);
    }

pushed : (count left number : ℕ) (old now new : List ℕ) → left < count → now ≡ old ++ bits (count - (left + 1)) (number / 2 ^ (left + 1))
    → new ≡ now ++ number / 2 ^ left % 2 ∷ [] → new ≡ old ++ bits (count - left) (number / 2 ^ left)
pushed count left number old now new h e is =
    let done = count - (left + 1) in
    let more : count - left ≡ done + 1 = omega arith in
    is ∙ ap (λ xs. xs ++ number / 2 ^ left % 2 ∷ []) e ∙ append_assoc old (bits done (number / 2 ^ (left + 1))) (number / 2 ^ left % 2 ∷ [])
    ∙ ap (λ xs. old ++ xs) (sym (bits-down done number left)) ∙ ap (λ k. old ++ bits k (number / 2 ^ left)) (sym more)

pub loop-left-preserved : goal.loop-left-preserved
loop-left-preserved c =
    let left = c.loop-left.left - 1 in
    let here = c.loop-left.invariant in
    let before : left + 1 ≡ c.loop-left.left = omega arith in
    let below : left < c.args.count = omega arith in
    let old = held c.args.bytes.now.items c.args.place.now in
    record {
      few = omega arith;
      extends = extends_more _ _ _ here.extends c.push_bit.ensures.extends;
      so_far =
          pushed c.args.count left c.args.number old (held c.loop-left.bytes.items c.loop-left.place) _ below
          (here.so_far ∙ ap (λ k. old ++ bits (c.args.count - k) (c.args.number / 2 ^ k)) (sym before)) c.in_ok-push_bit.ensures.ok;
    }
