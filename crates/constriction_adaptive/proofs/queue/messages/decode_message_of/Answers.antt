use Rattle.std.proofs.Common.{◌≡◌, Err, ap, sym, ◌∙◌}
use Rattle.std.proofs.lemmas.List.Elements.{same_from_all_zip}
use Rattle.constriction_words.specs.declared.CoderError.TheVariants.{Frontend}
use Rattle.constriction_coders.proofs.Outcomes.{no-error}
use Rattle.constriction_coders.specs.declared.queue.range_decoder.DecoderFrontendError.TheVariants.{InvalidData}
use Rattle.constriction_adaptive.proofs.queue.messages.decode_message_of.Goals as goal

pub returns-in-Ok : goal.returns-in-Ok
returns-in-Ok g c = record {
  back = λ first symbols message more begins long sent fit is.
      let known = sym (c.new_at_write_beginning-source.ensures.ahead ∙ is) in
      (rw begins at c.in-Ok.ensures.back) symbols message more long sent fit known;
  same = λ own first symbols message more begins long sent fit is.
      let known = sym (c.new_at_write_beginning-source.ensures.ahead ∙ is) in
      let back = (rw begins at c.in-Ok.ensures.back) symbols message more long sent fit known in
      same_from_all_zip _ symbols c.in-Ok.answers.items back.0 own;
  count = c.in-Ok.ensures.count;
  valid = λ is. absurd (no-error _ _ is);
}

pub returns-in-Err-Frontend : goal.returns-in-Err-Frontend
returns-in-Err-Frontend g c = record {
  back = tt;
  same = tt;
  count = tt;
  valid = λ is first symbols message more begins long sent fit words.
      let known = sym (c.new_at_write_beginning-source.ensures.ahead ∙ words) in
      let same : c.in-Err-Frontend.error ≡ InvalidData = cc in
      (rw begins at c.in-Err-Frontend.ensures.valid) (ap Err (c.in-Err-Frontend.field-0-is ∙ ap Frontend same)) symbols message
      more long sent fit known;
}
