use Rattle.std.proofs.Common.{[], Err, fold, refl, ap, sym, ◌∙◌, arith}
use Rattle.std.proofs.lemmas.List.{append-nil}
use Rattle.constriction_coders.proofs.Outcomes.{no-error}
use Rattle.constriction_coders.specs.Places.{IsMessageFrom}
use Rattle.constriction_adaptive.specs.Predicted.{predicted_entry}
use Rattle.constriction_adaptive.proofs.MessageErrors.{not-decoding, of-decoding, of-encoding}
use Rattle.constriction_adaptive.proofs.queue.messages.message_comes_back.Goals as goal

pub returns-in-Ok-decode_message : goal.returns-in-Ok-decode_message
returns-in-Ok-decode_message g c =
    let words = c.in-Ok.words.items in
    let known = append-nil words ∙ sym c.new_at_write_beginning-source.ensures.ahead in
    let message : IsMessageFrom (predicted_entry g.P.Predictor.rows g.P.Model.EncoderModel.symbol_eq) g.P.Predictor.next g.row.PRECISION
    (g.P.Predictor.state c.args.decoding.now) c.args.symbols.now words = rw c.requires c.in-Ok.ensures.ok in
    let both = c.in-Ok-decode_message.ensures.back c.args.symbols.now words [] refl message (λ k d h. absurd (omega (arith, h))) known in
    record {
      back = both.0;
      learned = c.in-Ok.ensures.learned;
      one_state = both.1 ∙ ap (λ s. fold g.P.Predictor.next s c.args.symbols.now) c.requires ∙ sym c.in-Ok.ensures.learned;
      valid = λ is. no-error _ _ is;
      err = λ error is. absurd (no-error _ _ is);
      refused = λ error is. absurd (no-error _ _ is);
    }

pub returns-in-Err : goal.returns-in-Err
returns-in-Err g c = record {
  back = tt;
  learned = tt;
  one_state = tt;
  valid = λ is. not-decoding _ _ _ refl is;
  err = λ error is. c.in-Err.ensures.err error (ap Err (of-encoding _ _ _ refl is));
  refused = λ error is. c.in-Err.ensures.refused error (ap Err (of-encoding _ _ _ refl is));
}

pub returns-in-Err-decode_message : goal.returns-in-Err-decode_message
returns-in-Err-decode_message g c = record {
  back = tt;
  learned = tt;
  one_state = tt;
  valid = λ is.
      let words = c.in-Ok.words.items in
      let known = append-nil words ∙ sym c.new_at_write_beginning-source.ensures.ahead in
      let message : IsMessageFrom (predicted_entry g.P.Predictor.rows g.P.Model.EncoderModel.symbol_eq) g.P.Predictor.next g.row.PRECISION
      (g.P.Predictor.state c.args.decoding.now) c.args.symbols.now words = rw c.requires c.in-Ok.ensures.ok in
      c.in-Err-decode_message.ensures.valid (ap Err (of-decoding _ _ _ refl is)) c.args.symbols.now words [] refl message
      (λ k d h. absurd (omega (arith, h))) known;
  err = λ error is. absurd (not-decoding _ _ _ is refl);
  refused = λ error is. absurd (not-decoding _ _ _ is refl);
}
