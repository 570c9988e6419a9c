use Rattle.std.proofs.Common.{map, ap, sym, ◌∙◌}
use Rattle.constriction_model.specs.lemmas.Coding.{row-within}
use Rattle.either.specs.declared.Either.TheVariants.{Left, Right}
use Rattle.constriction_adaptive.specs.ByContext.{rows_if_any, context_state}
use Rattle.constriction_adaptive.specs.Pair.{pair_state, with_symbols}
use Rattle.constriction_adaptive.proofs.ByContextLemmas.{state-found}
use Rattle.constriction_adaptive.proofs.PairLemmas.{row-with, side-left, side-right}
use Rattle.constriction_adaptive.proofs.pair.PairDecoderModel.quantile_function.Goals as goal

pub returns-in-Ok : goal.returns-in-Ok
returns-in-Ok g c =
    let m = c.args.self.now in
    let found = state-found m.rights.items c.index.result c.index-then-self.result.now c.index-then-self.ensures g.C.Context.number
    (g.C.Context.state m.context) _ c.index.ensures.number (sym m.each) c.index.ensures.below g.B.Predictor.state in
    let rows = side-right g.A.Predictor.rows g.B.Predictor.rows g.C.Context.number
    (pair_state (g.A.Predictor.state m.left) (context_state (map g.B.Predictor.state m.rights.items) (g.C.Context.state m.context))
    m.is_right) c.if-self.true ∙ ap (λ o. with_symbols Right (rows_if_any g.B.Predictor.rows o)) found in
    let row = c.in-Ok.ensures.row in
    record {
      row = (Right row.0, row.1, row-with Right _ _ (rows ∙ ap (with_symbols Right) (sym c.model.ensures)) c.args.quantile _ row.2);
      within = row-within _ g.row.PRECISION _ _ _ (g.met.B.Model.DecoderModel.tile_law c.model.result.now) row.2;
      refused = tt;
    }

pub returns-in-Err : goal.returns-in-Err
returns-in-Err g c =
    let m = c.args.self.now in
    let found = state-found m.rights.items c.index.result c.index-then-self.result.now c.index-then-self.ensures g.C.Context.number
    (g.C.Context.state m.context) _ c.index.ensures.number (sym m.each) c.index.ensures.below g.B.Predictor.state in
    let rows = side-right g.A.Predictor.rows g.B.Predictor.rows g.C.Context.number
    (pair_state (g.A.Predictor.state m.left) (context_state (map g.B.Predictor.state m.rights.items) (g.C.Context.state m.context))
    m.is_right) c.if-self.true ∙ ap (λ o. with_symbols Right (rows_if_any g.B.Predictor.rows o)) found in
    let row = c.in-Err.ensures.refused in
    record {
      row = tt;
      within = tt;
      refused = (_, row-with Right _ _ (rows ∙ ap (with_symbols Right) (sym c.model.ensures)) c.args.quantile row.0 row.1, row.2);
    }

pub returns-in-Ok-row_in_coder_words : goal.returns-in-Ok-row_in_coder_words
returns-in-Ok-row_in_coder_words g c =
    let m = c.args.self.now in
    let rows = side-left g.A.Predictor.rows g.B.Predictor.rows g.C.Context.number
    (pair_state (g.A.Predictor.state m.left) (context_state (map g.B.Predictor.state m.rights.items) (g.C.Context.state m.context))
    m.is_right) c.if-self.false in
    let row = c.in-Ok-row_in_coder_words.ensures.row in
    record {
      row = (Left row.0, row.1, row-with Left _ _ (rows ∙ ap (with_symbols Left) (sym c.model-else-self.ensures)) c.args.quantile _ row.2);
      within = row-within _ g.row.PRECISION _ _ _ (g.met.A.Model.DecoderModel.tile_law c.model-else-self.result.now) row.2;
      refused = tt;
    }

pub returns-in-Err-row_in_coder_words : goal.returns-in-Err-row_in_coder_words
returns-in-Err-row_in_coder_words g c =
    let m = c.args.self.now in
    let rows = side-left g.A.Predictor.rows g.B.Predictor.rows g.C.Context.number
    (pair_state (g.A.Predictor.state m.left) (context_state (map g.B.Predictor.state m.rights.items) (g.C.Context.state m.context))
    m.is_right) c.if-self.false in
    let row = c.in-Err-row_in_coder_words.ensures.refused in
    record {
      row = tt;
      within = tt;
      refused = (_, row-with Left _ _ (rows ∙ ap (with_symbols Left) (sym c.model-else-self.ensures)) c.args.quantile row.0 row.1, row.2);
    }
