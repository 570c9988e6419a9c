use Rattle.std.proofs.Common.{◌≡◌, None, List, ap, refl, subst, ◌∙◌}
use Rattle.constriction_model.specs.Rows.{Row, entry_of}
use Rattle.constriction_adaptive.proofs.stack.entries.predict_and_learn.Goals as goal

pub returns-in-Err : goal.returns-in-Err
returns-in-Err g c = record { ok = tt; learned = tt; impossible = λ is. cc; unlearned = c.reserve.ensures.same }

pub returns-in_default : goal.returns-in_default
returns-in_default g c = record {
  ok = tt;
  learned = tt;
  impossible = λ is.
      subst (λ (rows : List (Row g.row.P-Symbol.Denot)). entry_of g.P.Model.EncoderModel.symbol_eq rows c.args.symbol.now ≡ None)
      (c.model.ensures ∙ ap g.P.Predictor.rows c.reserve.ensures.same) (c.in_default.ensures.none refl);
  unlearned = c.reserve.ensures.same;
}
