use Rattle.std.proofs.Common.{◌≡◌, ◌∙◌, Err, List, None, ap, refl, subst}
use Rattle.constriction_model.specs.Rows.{Row, entry_of}
use Rattle.constriction_coders.specs.Spans.{IsNarrowingFault}
use Rattle.constriction_coders.specs.lemmas.ModelWords.{tiles-wider}
use Rattle.constriction_adaptive.proofs.Runs.{narrowed-in, tile-in}
use Rattle.constriction_adaptive.proofs.queue.encoding.encode_next.Goals as goal

pub returns-in-Err : goal.returns-in-Err
returns-in-Err g c = record {
  ok = tt;
  learned = tt;
  tile = tt;
  fault = tt;
  same = refl;
  unlearned = c.reserve.ensures.same;
}

pub returns-in-Ok-encode_symbol : goal.returns-in-Ok-encode_symbol
returns-in-Ok-encode_symbol g c =
    let eq = g.P.Model.EncoderModel.symbol_eq in
    let state = g.P.Predictor.state c.args.predictor.now in
    let rows = c.model.ensures ∙ ap g.P.Predictor.rows c.reserve.ensures.same in
    record {
      ok =
          narrowed-in g.P.Predictor.rows eq g.row.PRECISION _ state rows c.args.symbol.now _ _
          c.in-Ok-encode_symbol.ensures.ok;
      learned = c.learn.ensures ∙ ap (λ s. g.P.Predictor.next s c.args.symbol.now) c.reserve.ensures.same;
      tile =
          tile-in g.P.Predictor.rows eq g.row.PRECISION _ state rows
          (tiles-wider _ 32 g.row.PRECISION _ g.met.P.Model.Probability.ModelWord.width_law
          (g.met.P.Model.DecoderModel.tile_law c.model.result.now));
      fault = tt;
      same = tt;
      unlearned = tt;
    }

pub returns-in-Err-Frontend : goal.returns-in-Err-Frontend
returns-in-Err-Frontend g c = record {
  ok = tt;
  learned = tt;
  tile = tt;
  fault =
      subst (λ (r : List (Row g.row.P-Symbol.Denot)). entry_of g.P.Model.EncoderModel.symbol_eq r c.args.symbol.now ≡ None)
      (c.model.ensures ∙ ap g.P.Predictor.rows c.reserve.ensures.same)
      (c.in-Err-Frontend.ensures.impossible _ (ap Err c.in-Err-Frontend.field-0-is));
  same = c.in-Err-Frontend.ensures.same;
  unlearned = c.reserve.ensures.same;
}

pub returns-in-Err-Backend : goal.returns-in-Err-Backend
returns-in-Err-Backend g c = record {
  ok = tt;
  learned = tt;
  tile = tt;
  fault =
      rw c.in-Err-Backend.field-0-is at
      (subst (λ (r : List (Row g.row.P-Symbol.Denot)).
      IsNarrowingFault (entry_of g.P.Model.EncoderModel.symbol_eq r c.args.symbol.now) g.row.PRECISION c.in-Err-Backend.field-0
      c.args.encoder.now)
      (c.model.ensures ∙ ap g.P.Predictor.rows c.reserve.ensures.same) c.in-Err-Backend.ensures.step);
  same = c.in-Err-Backend.ensures.same;
  unlearned = c.reserve.ensures.same;
}
