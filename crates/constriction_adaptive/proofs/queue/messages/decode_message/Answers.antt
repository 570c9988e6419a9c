use Rattle.std.proofs.Common.{◌≡◌, ◌++◌, ◌∙◌, inl, inr, refl}
use Rattle.constriction_model.specs.Coding.{StandsForEqual}
use Rattle.constriction_words.specs.declared.CoderError.TheVariants.{Frontend}
use Rattle.constriction_coders.specs.Places.{placed}
use Rattle.constriction_coders.specs.RangeDecoder.{held_by}
use Rattle.constriction_coders.specs.Spans.{whole}
use Rattle.constriction_coders.specs.declared.queue.range_decoder.DecoderFrontendError.TheVariants.{InvalidData}
use Rattle.constriction_coders.proofs.Messages.{came-back, not-invalid}
use Rattle.constriction_coders.proofs.Outcomes.{no-error, no-fault}
use Rattle.constriction_coders.proofs.Sealing.{sealed-tell}
use Rattle.constriction_coders.proofs.Spanning.{whole-reached}
use Rattle.constriction_adaptive.proofs.Runs.{above-all, same-state}
use Rattle.constriction_adaptive.proofs.queue.messages.decode_message.Goals as goal

pub returns-in-Err : goal.returns-in-Err
returns-in-Err g c = record { back = tt; count = tt; valid = λ is. absurd (no-fault _ _ _ refl is) }

pub returns-in-Ok-decode_adaptively : goal.returns-in-Ok-decode_adaptively
returns-in-Ok-decode_adaptively g c = record {
  back = λ symbols words more long message fit known.
      let next = g.P.Predictor.next in
      let first = g.P.Predictor.state c.args.predictor.now in
      let coded = c.in-Ok-decode_adaptively.ensures.ok in
      let answers = c.in-Ok-decode_adaptively.answers.items in
      let back = came-back (placed next first) _ _ _ _ _ (c.symbols_come_back.ensures first) (held_by c.in-Ok.decoder) c.args.count answers
      _ coded.led symbols (words ++ more) whole message.0 whole-reached long message.1
      (sealed-tell message.0 words more message.2 fit) (c.in-Ok.ensures.begins (words ++ more) known)
      c.in-Ok-decode_adaptively.ensures.count in (
        back,
        coded.learned ∙ same-state next (StandsForEqual g.P.Model.DecoderModel.stands_for g.P.Model.EncoderModel.symbol_eq)
            g.met.P.Predictor.next_law first symbols answers back,
      );
  count = c.in-Ok-decode_adaptively.ensures.count;
  valid = λ is. absurd (no-error _ _ is);
}

pub returns-clause-valid : goal.returns-clause-valid
returns-clause-valid g c = λ is symbols words more long message fit known.
    let next = g.P.Predictor.next in
    let first = g.P.Predictor.state c.args.predictor.now in
    let same : c.in-Err-decode_adaptively.error ≡ Frontend InvalidData = cc in
    let invalid = rw same at c.in-Err-decode_adaptively.ensures.err in
    elim invalid.why [
      | inl few ↦
          not-invalid (placed next first) _ _ _ _ _ (c.symbols_come_back.ensures first) (held_by c.in-Ok.decoder) c.args.count
          invalid.done (held_by invalid.reached) invalid.coded.led symbols (words ++ more) whole message.0 whole-reached long message.1
          (sealed-tell message.0 words more message.2 fit) (c.in-Ok.ensures.begins (words ++ more) known) few.0
          (above-all held_by _ _ g.Source.ReadWords.read_gives g.row.PRECISION invalid.reached _ few.1)
      | inr none ↦ cc (none.3, none.4)
    ]
