use Rattle.std.proofs.Common.{◌≡◌, Err, ◌*◌, ◌+◌, ◌^◌, ℕ, List, Bool, ◌∷◌, [], ◌++◌, ◌<◌, ◌≤◌, length, map, arith, ap, inl, inr, sym, ◌∙◌, subst, length-append}
use Rattle.std.proofs.lemmas.List.{length-map, map-append}
use Rattle.std.proofs.lemmas.List.Elements.{All-push}
use Rattle.std.proofs.lemmas.Nat.{mul-le}
use Rattle.std.specs.Prelude.{All}
use Rattle.std.specs.Bool.{beq}
use Rattle.constriction_words.specs.declared.CoderError.TheVariants.{Frontend, Backend}
use Rattle.constriction_coders.proofs.Outcomes.{no-error}
use Rattle.constriction_coders.specs.Places.{placed}
use Rattle.constriction_coders.specs.RangeDecoder.{held_by}
use Rattle.constriction_coders.specs.declared.queue.range_decoder.DecoderFrontendError.TheVariants.{InvalidData}
use Rattle.constriction_adaptive.specs.Numbers.{all_bits, bits_of}
use Rattle.constriction_adaptive.specs.Predicted.{AreCoded, IsReadIn}
use Rattle.constriction_adaptive.proofs.Bits.{all-bits-length, all-bits-push}
use Rattle.constriction_adaptive.proofs.ReadOnce.{not-invalid}
use Rattle.constriction_adaptive.proofs.Runs.{above-all, coded-append, read-failed}
use Rattle.constriction_adaptive.proofs.Telling.{holding, told-start, told-turns}
use Rattle.constriction_adaptive.proofs.numbers.decode_numbers.Goals as goal

pub loop-done-preserved : goal.loop-done-preserved
loop-done-preserved g c =
    let width = g.row.BITS in
    let value = g.Number.WholeNumber.whole in
    let numbers = c.loop-done.numbers.items in
    let number = c.in-Ok-decode_number.number in
    let Step = IsReadIn g.P.Predictor.rows (λ s t. t ≡ s) beq 16 g.Source.ReadWords.read_gives in
    let one : map value c.push.new.self.items ≡ map value numbers ++ value number ∷ [] =
    ap (map value) c.in-Ok-push.ensures.items ∙ map-append value numbers (number ∷ []) in
    let all : all_bits width (map value numbers) ++ bits_of width (value number) ≡ all_bits width (map value c.push.new.self.items) =
    sym (all-bits-push width (map value numbers) (value number)) ∙ sym (ap (all_bits width) one) in record {
      goes_on = c.decode_number.ensures.goes_on;
      counted =
          omega (arith, ap length c.in-Ok-push.ensures.items, length-append numbers (number ∷ []), c.loop-done.invariant.counted);
      small =
          subst (λ (ns : List ℕ). All (λ n. n < 2 ^ width) ns) (sym one)
          (All-push (λ n. n < 2 ^ width) (map value numbers) (value number) c.loop-done.invariant.small
          c.in-Ok-decode_number.ensures.fits);
      so_far =
          subst (λ (bits : List Bool). AreCoded g.P.Predictor.next Step bits (g.P.Predictor.state c.args.predictor.now)
          (held_by c.in-Ok.decoder) (g.P.Predictor.state c.decode_number.new.predictor) (held_by c.decode_number.new.decoder)) all
          (coded-append g.P.Predictor.next Step (all_bits width (map value numbers)) (bits_of width (value number)) _ _ _ _ _ _
          c.loop-done.invariant.so_far c.in-Ok-decode_number.ensures.ok);
    }

pub returns-in-Err : goal.returns-in-Err
returns-in-Err g c = record {
  ok = tt;
  count = tt;
  learned = tt;
  valid = λ is. cc;
  failed = λ error is.
      let same : c.in-Err.error ≡ error = cc in
      c.in-Err.ensures.failed error (ap Err same);
}

pub returns : goal.returns
returns g c = record {
  ok = λ words known.
      let gives = g.Source.ReadWords.read_gives in
      let tells = g.Source.ReadWords.tells_upcoming in
      let law = g.met.Source.ReadWords.reads_upcoming in
      let start = told-start gives tells law c.args.source (held_by c.in-Ok.decoder).held c.in-Ok.decoder.words c.in-Ok.ensures.ok
      words known in
      let bits = all_bits g.row.BITS (map g.Number.WholeNumber.whole c.loop-done.numbers.items) in
      let run = told-turns gives tells law g.P.Predictor.rows (λ s t. t ≡ s) beq 16
      (placed g.P.Predictor.next (g.P.Predictor.state c.args.predictor.now) bits) (held_by c.in-Ok.decoder) (held_by c.loop-done.decoder)
      c.loop-done.invariant.so_far.led start.0 start.2 in
      record {
        small = c.loop-done.invariant.small;
        start = holding (held_by c.in-Ok.decoder).held start.0;
        begun = start.1;
        end = holding (held_by c.loop-done.decoder).held run.0;
        led = run.1;
      };
  count = omega (arith, c.loop-done.invariant.counted, c.loop-done-test.false, c.loop-done.auto.done-end);
  learned = c.loop-done.invariant.so_far.learned;
  valid = λ is. absurd (no-error _ _ is);
  failed = λ error is. absurd (no-error _ _ is);
}

pub returns-in-Err-push : goal.returns-in-Err-push
returns-in-Err-push g c = record { ok = tt; count = tt; learned = tt; valid = λ is. cc; failed = λ error is. cc }

pub returns-in-Err-decode_number-clause-ok : goal.returns-in-Err-decode_number-clause-ok
returns-in-Err-decode_number-clause-ok g c = tt

pub returns-in-Err-decode_number-clause-failed : goal.returns-in-Err-decode_number-clause-failed
returns-in-Err-decode_number-clause-failed g c = λ error is.
    let same : c.in-Err-decode_number.error ≡ Backend error = cc in
    let stops = rw same at c.in-Err-decode_number.ensures.err in
    elim stops.why [
      | inr none ↦ cc (none.3, none.4)
      | inl few ↦ read-failed held_by _ _ g.Source.ReadWords.read_gives 16 error stops.reached _ few.1
    ]

pub returns-in-Err-decode_number-clause-valid : goal.returns-in-Err-decode_number-clause-valid
returns-in-Err-decode_number-clause-valid g c = λ is numbers words long read known.
    let width = g.row.BITS in
    let value = g.Number.WholeNumber.whole in
    let gives = g.Source.ReadWords.read_gives in
    let tells = g.Source.ReadWords.tells_upcoming in
    let law = g.met.Source.ReadWords.reads_upcoming in
    let rows = g.P.Predictor.rows in
    let next = g.P.Predictor.next in
    let first = g.P.Predictor.state c.args.predictor.now in
    let same : c.in-Err-decode_number.error ≡ Frontend InvalidData = cc in
    let stops = rw same at c.in-Err-decode_number.ensures.err in
    let so_far = map value c.loop-done.numbers.items in
    let before = all_bits width so_far in
    let coded = coded-append next (IsReadIn rows (λ s t. t ≡ s) beq 16 gives) before stops.done _ _ _ _ _ _ c.loop-done.invariant.so_far
    stops.coded in
    let start = told-start gives tells law c.args.source (held_by c.in-Ok.decoder).held c.in-Ok.decoder.words c.in-Ok.ensures.ok
    words known in
    let run = told-turns gives tells law rows (λ s t. t ≡ s) beq 16 (placed next first (before ++ stops.done)) (held_by c.in-Ok.decoder)
    (held_by stops.reached) coded.led start.0 start.2 in
    elim stops.why [
      | inr none ↦ cc (none.3, none.4)
      | inl few ↦
          let more : width * (length so_far + 1) ≤ width * length numbers =
          mul-le width (length so_far + 1) width (length numbers) (omega arith)
          (omega (
            arith,
            length-map c.loop-done.numbers.items value,
            c.loop-done.invariant.counted,
            long,
            c.loop-done-test.true,
          )) in
          not-invalid rows next width first (before ++ stops.done) numbers words (holding (held_by c.in-Ok.decoder).held start.0)
          (holding (held_by stops.reached).held run.0) start.1 run.1 read
          (omega (arith, length-append before stops.done, all-bits-length width so_far, few.0, more))
          (above-all held_by _ _ gives 16 stops.reached _ few.1)
    ]
