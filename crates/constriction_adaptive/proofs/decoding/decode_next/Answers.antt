use Rattle.std.proofs.Common.{Err, List, ap, inl, inr, refl, ◌∙◌, subst}
use Rattle.constriction_model.specs.Rows.{Row}
use Rattle.constriction_coders.specs.lemmas.ModelWords.{tiles-wider}
use Rattle.constriction_coders.proofs.Outcomes.{no-error}
use Rattle.constriction_adaptive.proofs.Runs.{decoded-in}
use Rattle.constriction_adaptive.proofs.decoding.decode_next.Goals as goal

pub returns-in-Err : goal.returns-in-Err
returns-in-Err g c = record {
  goes_on = c.requires;
  ok = tt;
  learned = tt;
  err = inl (c.into.result, c.into.ensures, refl, refl);
  same = λ fault is. refl;
  unlearned = c.reserve.ensures.same;
}

pub returns-in-Ok-decode_symbol : goal.returns-in-Ok-decode_symbol
returns-in-Ok-decode_symbol g c = record {
  goes_on = c.decode_symbol.ensures.goes_on;
  ok =
      decoded-in g.P.Predictor.rows g.P.Model.EncoderModel.symbol_eq g.row.PRECISION _ (g.P.Predictor.state c.args.predictor.now)
      (c.model.ensures ∙ ap g.P.Predictor.rows c.reserve.ensures.same)
      (g.C.Decode.is_decoded _ g.P.Model.DecoderModel.stands_for) _ _ _
      (tiles-wider _ 32 g.row.PRECISION _ g.met.P.Model.Probability.ModelWord.width_law
      (g.met.P.Model.DecoderModel.tile_law c.model.result.now)) c.in-Ok-decode_symbol.ensures.ok;
  learned = c.learn.ensures ∙ ap (λ s. g.P.Predictor.next s c.in-Ok-decode_symbol.symbol) c.reserve.ensures.same;
  err = tt;
  same = λ fault is. absurd (no-error _ _ is);
  unlearned = tt;
}

pub returns-in-Err-decode_symbol-clause-err : goal.returns-in-Err-decode_symbol-clause-err
returns-in-Err-decode_symbol-clause-err g c =
    inr (subst (λ (rows : List (Row g.row.P-Symbol.Denot)). g.C.Decode.decodes _ g.P.Model.DecoderModel.may_refuse rows
    c.args.coder.now (Err c.in-Err-decode_symbol.error) c.decode_symbol.new.self)
    (c.model.ensures ∙ ap g.P.Predictor.rows c.reserve.ensures.same) c.in-Err-decode_symbol.ensures.step)
