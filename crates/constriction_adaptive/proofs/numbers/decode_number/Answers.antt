use Rattle.std.proofs.Common.{◌≡◌, ◌≤◌, ◌+◌, ◌*◌, ◌^◌, ◌∷◌, [], ◌++◌, List, Bool, refl, suc, arith, ap, subst, sym, ◌∙◌}
use Rattle.std.specs.Bool.{beq}
use Rattle.std.proofs.Math.Nat.{pow-suc}
use Rattle.std.proofs.Math.Pow.{pow_mono}
use Rattle.constriction_coders.specs.RangeDecoder.{held_by}
use Rattle.constriction_adaptive.specs.Bit.{bit_number}
use Rattle.constriction_adaptive.specs.Numbers.{bits_of}
use Rattle.constriction_adaptive.specs.Predicted.{AreCoded, IsReadIn}
use Rattle.constriction_adaptive.proofs.Bits.{bit-small, bits-length, bits-push, no-bits}
use Rattle.constriction_adaptive.proofs.Runs.{coded-push, decoding-stops}
use Rattle.constriction_adaptive.proofs.numbers.decode_number.Goals as goal

pub loop-done-preserved : goal.loop-done-preserved
loop-done-preserved g c =
    let Step = IsReadIn g.P.Predictor.rows (λ s t. t ≡ s) beq 16 g.Source.ReadWords.read_gives in
    let so = c.loop-done.invariant in
    let bit = c.in-Ok.bit in
    let n = c.loop-done.number in
    let done = c.loop-done.done in
    let one : done + 1 ≡ suc done = omega arith in
    let double : 2 ^ (done + 1) ≡ 2 ^ done * 2 = ap (λ k. 2 ^ k) one ∙ pow-suc 2 done in
    let is : 2 * n + c.from.result ≡ 2 * n + bit_number bit = omega (arith, c.from.ensures) in
    let more : bits_of (done + 1) (2 * n + c.from.result) ≡ bits_of done n ++ bit ∷ [] =
    ap (λ k. bits_of (done + 1) k) is ∙ ap (λ k. bits_of k (2 * n + bit_number bit)) one ∙ bits-push done n bit in record {
      goes_on = c.decode_next_bit.ensures.goes_on;
      below = omega (arith, so.below, bit-small bit, double, is);
      so_far =
          subst (λ (bits : List Bool). AreCoded g.P.Predictor.next Step bits (g.P.Predictor.state c.args.predictor.now)
          (held_by c.args.decoder.now) (g.P.Predictor.state c.decode_next_bit.new.predictor) (held_by c.decode_next_bit.new.decoder)) (sym more)
          (coded-push g.P.Predictor.next Step (bits_of done n) bit _ _ _ _ _ _ so.so_far c.in-Ok.ensures.ok c.in-Ok.ensures.learned);
    }

pub returns-in-Err-clause-err : goal.returns-in-Err-clause-err
returns-in-Err-clause-err g c =
    let Step = IsReadIn g.P.Predictor.rows (λ s t. t ≡ s) beq 16 g.Source.ReadWords.read_gives in
    let so = c.loop-done.invariant in
    decoding-stops g.P.Predictor.next Step held_by _ _ g.row.BITS c.in-Err.error (bits_of c.loop-done.done c.loop-done.number) _ _ _
    c.loop-done.decoder _ _ so.so_far
    (omega (arith, bits-length c.loop-done.done c.loop-done.number, c.loop-done-test.true)) c.in-Err.ensures.err c.in-Err.ensures.unlearned

pub loop-done-init : goal.loop-done-init
loop-done-init g c = record {
  goes_on = c.requires.can_read;
  below = omega arith;
  so_far =
      subst (λ (bits : List Bool). AreCoded g.P.Predictor.next
      (IsReadIn g.P.Predictor.rows (λ s t. t ≡ s) beq 16 g.Source.ReadWords.read_gives) bits (g.P.Predictor.state c.args.predictor.now)
      (held_by c.args.decoder.now) (g.P.Predictor.state c.args.predictor.now)
      (held_by c.args.decoder.now)) (sym (no-bits 0)) (record { led = refl; learned = refl });
}

pub from_coder_word-requires : goal.from_coder_word-requires
from_coder_word-requires g c =
    let most : 2 ^ c.loop-done.done ≤ 2 ^ g.Number.WholeNumber.BITS =
    pow_mono (omega (arith, c.loop-done.auto.done-end, c.requires.width)) in
    omega (arith, c.loop-done.invariant.below, most)

pub returns-clause-ok : goal.returns-clause-ok
returns-clause-ok g c =
    let all : c.loop-done.done ≡ g.row.BITS = omega (arith, c.loop-done-test.false, c.loop-done.auto.done-end) in
    subst (λ (bits : List Bool). AreCoded g.P.Predictor.next
    (IsReadIn g.P.Predictor.rows (λ s t. t ≡ s) beq 16 g.Source.ReadWords.read_gives) bits (g.P.Predictor.state c.args.predictor.now)
    (held_by c.args.decoder.now) (g.P.Predictor.state c.loop-done.predictor) (held_by c.loop-done.decoder))
    (ap (λ k. bits_of k c.loop-done.number) all ∙ ap (λ n. bits_of g.row.BITS n) (sym c.from_coder_word.ensures))
    c.loop-done.invariant.so_far

pub returns-clause-fits : goal.returns-clause-fits
returns-clause-fits g c =
    let all : c.loop-done.done ≡ g.row.BITS = omega (arith, c.loop-done-test.false, c.loop-done.auto.done-end) in
    omega (arith, c.loop-done.invariant.below, c.from_coder_word.ensures, ap (λ k. 2 ^ k) all)
