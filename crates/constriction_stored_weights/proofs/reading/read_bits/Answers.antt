use Rattle.std.proofs.Common.{append-nil, ◌≡◌, ℕ, ◌+◌, ◌*◌, ◌^◌, ◌<◌, List, [], ◌∷◌, ◌++◌, ap, sym, ◌∙◌, arith, append_assoc, pow-suc, add-one, rules}
use Rattle.constriction_stored_weights.specs.Bits.{bits}
use Rattle.constriction_stored_weights.specs.private.Places.{upcoming}
use Rattle.constriction_stored_weights.proofs.BitsLemmas.{no_bits, bits-more}
use Rattle.constriction_stored_weights.proofs.reading.read_bits.Goals as goal

pub loop-at-init : goal.loop-at-init
loop-at-init c = record {
  within = c.requires.within;
  few = omega arith;
  least = omega arith;
  most = omega arith;
  so_far = ap (λ xs. xs ++ upcoming c.args.bytes.now c.args.place.now) (sym (no_bits c.args.above));
}

pub returns-in_err-number-clause-none : goal.returns-in_err-number-clause-none
returns-in_err-number-clause-none c = λ is.
    let here = c.loop-at.invariant in
    let ended : upcoming c.args.bytes.now c.loop-at.place ≡ [] = search (rules, c.in_err-number.ensures.none) in
    record {
      taken = c.loop-at.at;
      number = c.loop-at.number;
      few = omega (arith, c.loop-at-test.true);
      least = here.least;
      most = here.most;
      bits_are =
          here.so_far ∙ ap (λ xs. bits c.loop-at.at c.loop-at.number ++ xs) ended ∙ append-nil (bits c.loop-at.at c.loop-at.number);
    }

doubles : (above at : ℕ) → above * 2 ^ (at + 1) ≡ 2 * (above * 2 ^ at)
doubles above at = ap (λ k. above * 2 ^ k) (add-one at) ∙ ap (λ k. above * k) (pow-suc 2 at) ∙ grind arith

read_more : (at number bit : ℕ) (old rest new : List ℕ) → bit < 2 → old ≡ bits at number ++ rest → rest ≡ bit ∷ new
    → old ≡ bits (at + 1) (2 * number + bit) ++ new
read_more at number bit old rest new small e is =
    e ∙ ap (λ xs. bits at number ++ xs) is ∙ sym (append_assoc (bits at number) (bit ∷ []) new)
    ∙ ap (λ xs. xs ++ new) (sym (bits-more at number bit small))

pub loop-at-preserved : goal.loop-at-preserved
loop-at-preserved c =
    let here = c.loop-at.invariant in
    let bit = c.in_ok-number.field-0 in
    let read = c.in_ok-number.ensures.some in
    record {
      within = c.read_bit.ensures.within;
      few = omega (arith, c.loop-at-test.true);
      least = omega (arith, doubles c.args.above c.loop-at.at, here.least);
      most = omega (arith, doubles (c.args.above + 1) c.loop-at.at, here.most, read.1);
      so_far = read_more c.loop-at.at c.loop-at.number bit _ _ _ read.1 here.so_far read.0;
    }
