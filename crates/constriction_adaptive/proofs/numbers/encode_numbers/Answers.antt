use Rattle.std.proofs.Common.{◌^◌, ◌≡◌, ◌<◌, ℕ, List, Bool, [], map, take, arith, sym, subst, ap, Err}
use Rattle.constriction_words.specs.declared.CoderError.TheVariants.{Frontend}
use Rattle.constriction_adaptive.specs.declared.error.EncoderFrontendError.TheVariants.{ImpossibleSymbol}
use Rattle.std.specs.Prelude.{All}
use Rattle.std.specs.Bool.{beq}
use Rattle.std.proofs.lemmas.List.{append-nil, take_all}
use Rattle.std.proofs.lemmas.List.Elements.{All-nil}
use Rattle.constriction_coders.proofs.Outcomes.{no-error}
use Rattle.constriction_coders.specs.Places.{entry_at}
use Rattle.constriction_coders.specs.Spans.{Span, whole, IsNarrowed}
use Rattle.constriction_adaptive.specs.Numbers.{all_bits, bits_of, AreReadFrom}
use Rattle.constriction_adaptive.specs.Predicted.{predicted_entry, AllTile, AreCoded, IsEncodingFault}
use Rattle.constriction_adaptive.proofs.Bits.{all-bits-take, small-at, small-take}
use Rattle.constriction_adaptive.proofs.MessageReading.{message-read}
use Rattle.constriction_adaptive.proofs.NumberRuns.{number-stops}
use Rattle.constriction_adaptive.proofs.Runs.{coded-append, tile-append}
use Rattle.constriction_adaptive.proofs.numbers.encode_numbers.Goals as goal

pub loop-number-preserved : goal.loop-number-preserved
loop-number-preserved g c =
    let width = g.row.BITS in
    let value = g.Number.WholeNumber.whole in
    let numbers = c.args.numbers.now in
    let i = c.loop-number.number-index in
    let number = c.number-item.result in
    let rows = g.P.Predictor.rows in
    let next = g.P.Predictor.next in
    let first = g.P.Predictor.state c.args.predictor.now in
    let before = c.loop-number.invariant in
    let bits = all_bits width (map value (take i numbers)) in
    let Step : g.P.Predictor.State × Bool → Span → Span → Type 0 = λ s. IsNarrowed (entry_at (predicted_entry rows beq) s) 16 in
    let more = sym (all-bits-take width value numbers i number c.loop-number-test.true c.number-item.is) in record {
      so_far =
          subst (λ (bs : List Bool). AreCoded next Step bs first whole (g.P.Predictor.state c.encode_number.new.predictor)
          c.encode_number.new.encoder) more
          (coded-append next Step bits (bits_of width (value number)) _ _ _ _ _ _ before.so_far c.in-Ok.ensures.ok);
      tile =
          subst (λ (bs : List Bool). AllTile rows next 16 first bs) more
          (tile-append rows next 16 first bits (bits_of width (value number)) before.tile
          (subst (λ (s : g.P.Predictor.State). AllTile rows next 16 s (bits_of width (value number))) before.so_far.learned
          c.in-Ok.ensures.tile));
      small = small-take width value numbers i number c.loop-number-test.true c.number-item.is before.small c.in-Ok.ensures.fits;
    }

pub returns-in-Err : goal.returns-in-Err
returns-in-Err g c = record {
  ok = tt;
  read = tt;
  learned = tt;
  large = λ is small.
      let fits = small-at g.row.BITS g.Number.WholeNumber.whole c.args.numbers.now c.loop-number.number-index c.number-item.result
      c.loop-number-test.true c.number-item.is small in
      let same : c.in-Err.error ≡ Frontend ImpossibleSymbol = cc in
      omega (arith, fits, c.in-Err.ensures.large (ap Err same));
  err =
      number-stops g.P.Predictor.next g.row.BITS g.Number.WholeNumber.whole c.args.numbers.now c.loop-number.number-index
      c.number-item.result c.loop-number-test.true c.number-item.is (g.P.Predictor.state c.args.predictor.now) _
      c.loop-number.invariant.so_far.learned (λ s. IsNarrowed (entry_at (predicted_entry g.P.Predictor.rows beq) s) 16)
      (IsEncodingFault (entry_at (predicted_entry g.P.Predictor.rows beq)) 16 c.in-Err.error) _ _ _ c.in-Err.error
      c.loop-number.invariant.small
      (λ same. c.in-Err.ensures.large (ap Err same)) (λ same. c.in-Err.ensures.unlearned (ap Err same)) c.in-Err.ensures.err;
}

pub returns-in-Ok-into_compressed : goal.returns-in-Ok-into_compressed
returns-in-Ok-into_compressed g c =
    let width = g.row.BITS in
    let value = g.Number.WholeNumber.whole in
    let rows = g.P.Predictor.rows in
    let next = g.P.Predictor.next in
    let first = g.P.Predictor.state c.args.predictor.now in
    let words = c.in-Ok-into_compressed.words.items in
    let numbers = map value c.args.numbers.now in
    let all = take_all c.loop-number.number-index c.args.numbers.now (omega (arith, c.loop-number-test.false)) in
    let coded = subst (λ (ns : List g.row.Number.Denot). AreCoded next
    (λ s. IsNarrowed (entry_at (predicted_entry rows beq) s) 16) (all_bits width (map value ns)) first whole
    (g.P.Predictor.state c.loop-number.predictor) c.loop-number.encoder) all c.loop-number.invariant.so_far in
    let tile = subst (λ (ns : List g.row.Number.Denot). AllTile rows next 16 first (all_bits width (map value ns))) all
    c.loop-number.invariant.tile in
    let small = subst (λ (ns : List g.row.Number.Denot). All (λ n. n < 2 ^ width) (map value ns)) all c.loop-number.invariant.small in
    record {
      ok = (c.loop-number.encoder, coded.led, c.in-Ok-into_compressed.ensures.ok);
      read =
          subst (λ (ws : List ℕ). AreReadFrom width rows next first numbers ws) (append-nil words)
          (message-read rows next width first numbers words [] small
          (c.loop-number.encoder, coded.led, c.in-Ok-into_compressed.ensures.ok) (All-nil (λ w. w < 2 ^ 32)) tile);
      learned = coded.learned;
      large = λ is. absurd (no-error _ _ is);
      err = tt;
    }
