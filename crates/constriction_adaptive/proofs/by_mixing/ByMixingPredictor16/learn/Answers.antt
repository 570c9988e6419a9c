use Rattle.constriction_adaptive.proofs.ByMixingLemmas.{mixture_learned}
use Rattle.constriction_adaptive.proofs.by_mixing.ByMixingPredictor16.learn.Goals as goal

pub returns : goal.returns
returns g c =
    let before = c.args.self.now in
    mixture_learned g.P.BitPredictors.strengths g.P.BitPredictors.next (g.P.BitPredictors.state before.predictors) _
    before.weights _ before.strengths before.weight c.args.symbol.now before.strengths_are before.weight_is c.learn.ensures
    c.adjust.ensures
