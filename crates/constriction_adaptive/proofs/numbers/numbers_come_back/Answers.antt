use Rattle.std.proofs.Common.{◌≡◌, Err, fold, ap, map, sym, ◌∙◌, rules}
use Rattle.std.proofs.lemmas.List.{length-map}
use Rattle.constriction_words.specs.declared.CoderError.TheVariants.{Frontend}
use Rattle.constriction_coders.proofs.Outcomes.{no-error}
use Rattle.constriction_adaptive.specs.declared.error.EncoderFrontendError.TheVariants.{ImpossibleSymbol}
use Rattle.constriction_adaptive.specs.Numbers.{all_bits, AreReadFrom}
use Rattle.constriction_adaptive.proofs.ListLemmas.{map-once}
use Rattle.constriction_adaptive.proofs.NumberRuns.{stops-learned}
use Rattle.constriction_adaptive.proofs.numbers.numbers_come_back.Goals as goal

pub returns-in-Err-Frontend : goal.returns-in-Err-Frontend
returns-in-Err-Frontend g c = record {
  back = tt;
  learned = tt;
  one_state = tt;
  large = λ is.
      let same : c.in-Err-Frontend.error ≡ ImpossibleSymbol = cc in
      c.in-Err-Frontend.ensures.large (ap Err (c.in-Err-Frontend.field-0-is ∙ ap Frontend same));
  err =
      stops-learned g.P.Predictor.next g.row.BITS (map g.Number.WholeNumber.whole c.args.numbers.now) c.in-Err-Frontend.field-0
      (g.P.Predictor.state c.args.encoding.now) (g.P.Predictor.state c.encode_numbers.new.predictor) c.in-Err-Frontend.ensures.err;
}

pub returns-in-Err-Backend : goal.returns-in-Err-Backend
returns-in-Err-Backend g c = record { back = tt; learned = tt; one_state = tt; large = λ is. cc; err = search rules }

pub returns-in-Ok-decode_numbers : goal.returns-in-Ok-decode_numbers
returns-in-Ok-decode_numbers g c =
    let value = g.Number.WholeNumber.whole in
    let next = g.P.Predictor.next in
    let words = c.in-Ok.words.items in
    let numbers = c.args.numbers.now in
    let again = c.in-Ok-decode_numbers.again.items in
    let first = g.P.Predictor.state c.args.decoding.now in
    let known = sym c.new_at_write_beginning-source.ensures.ahead in
    let read : AreReadFrom g.row.BITS g.P.Predictor.rows next first (map value numbers) words =
    rw c.requires.one_state c.in-Ok.ensures.read in
    let back = map-once value g.met.Number.WholeNumber.same_law again numbers
    (c.numbers_are_read_once.ensures g.row.BITS first (map value again) (map value numbers) words
    (c.in-Ok-decode_numbers.ensures.ok words known) read
    (length-map again value ∙ c.in-Ok-decode_numbers.ensures.count ∙ sym (length-map numbers value))) in
    record {
      back = back;
      learned = c.in-Ok.ensures.learned;
      one_state =
          c.in-Ok-decode_numbers.ensures.learned ∙ ap (λ ns. fold next first (all_bits g.row.BITS (map value ns))) back
          ∙ ap (λ s. fold next s (all_bits g.row.BITS (map value numbers))) c.requires.one_state ∙ sym c.in-Ok.ensures.learned;
      large = λ is. absurd (no-error _ _ is);
      err = tt;
    }

pub returns-in-Err-Frontend-OutOfMemory : goal.returns-in-Err-Frontend-OutOfMemory
returns-in-Err-Frontend-OutOfMemory g c = record { back = tt; learned = tt; one_state = tt; large = λ is. cc; err = search rules }

pub unreachable-requires : goal.unreachable-requires
unreachable-requires g c =
    let value = g.Number.WholeNumber.whole in
    let words = c.in-Ok.words.items in
    let numbers = c.args.numbers.now in
    let first = g.P.Predictor.state c.args.decoding.now in
    let read : AreReadFrom g.row.BITS g.P.Predictor.rows g.P.Predictor.next first (map value numbers) words =
    rw c.requires.one_state c.in-Ok.ensures.read in
    c.in-Err-Frontend-InvalidData.ensures.valid
    (ap Err (c.in-Err-Frontend-InvalidData.field-0-is ∙ ap Frontend c.in-Err-Frontend-InvalidData.field-0-0-is)) (map value numbers)
    words (length-map numbers value) read (sym c.new_at_write_beginning-source.ensures.ahead)
