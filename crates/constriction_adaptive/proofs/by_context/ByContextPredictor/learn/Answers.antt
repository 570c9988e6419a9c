use Rattle.std.proofs.Common.{sym}
use Rattle.constriction_adaptive.proofs.ByContextLemmas.{states-learned}
use Rattle.constriction_adaptive.proofs.by_context.ByContextPredictor.learn.Goals as goal

pub returns : goal.returns
returns g c =
    let before = c.args.self.now in
    states-learned g.P.Predictor.state before.predictors.items c.index-index.result c.index_mut.result.now c.learn.new.self
    c.index_mut.ensures.value
    g.P.Predictor.next g.C.Context.number g.C.Context.next (g.C.Context.state before.context) (g.C.Context.state c.learn-2.new.self)
    c.args.symbol.now (g.C.Context.contexts before.context) c.index-index.ensures.number (sym before.each) c.index-index.ensures.below
    c.learn.ensures c.learn-2.ensures.next
