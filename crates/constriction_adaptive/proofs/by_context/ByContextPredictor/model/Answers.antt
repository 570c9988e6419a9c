use Rattle.std.proofs.Common.{ap, sym, ◌∙◌}
use Rattle.constriction_adaptive.specs.ByContext.{rows_if_any}
use Rattle.constriction_adaptive.proofs.ByContextLemmas.{state-found}
use Rattle.constriction_adaptive.proofs.by_context.ByContextPredictor.model.Goals as goal

pub returns : goal.returns
returns g c =
    let m = c.args.self.now in
    let found = state-found m.predictors.items c.index.result c.index-2.result.now c.index-2.ensures g.C.Context.number
    (g.C.Context.state m.context) _ c.index.ensures.number (sym m.each) c.index.ensures.below g.P.Predictor.state in
    c.model.ensures ∙ sym (ap (rows_if_any g.P.Predictor.rows) found)
