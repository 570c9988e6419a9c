use Rattle.std.proofs.Common.{List, Option, IfSome, ap, set, sym, subst, ◌∙◌, arith, get_or-set_same}
use Rattle.std.proofs.lemmas.List.{length-set}
use Rattle.std.proofs.lemmas.Result.{IfOk-weaker}
use Rattle.constriction_adaptive.specs.ByContext.{context_state}
use Rattle.constriction_adaptive.proofs.ByContextLemmas.{item-found, states-stay}
use Rattle.constriction_adaptive.proofs.by_context.ByContextPredictor.reserve.Goals as goal

pub returns : goal.returns
returns g c =
    let before = c.args.self.now in
    let i = c.index-index.result in
    let items : List g.row.P.Denot = set before.predictors.items i c.reserve.new.self in
    let many = sym before.each ∙ sym (length-set before.predictors.items i c.reserve.new.self) in
    let there = sym (get_or-set_same before.predictors.items i c.reserve.new.self c.reserve.new.self
    (omega (arith, c.index-index.ensures.below, before.each))) in
    let found = item-found items i c.reserve.new.self there g.C.Context.number (g.C.Context.state before.context) _
    c.index-index.ensures.number many c.index-index.ensures.below in
    record {
      ready =
          IfOk-weaker c.reserve.result _ _
          (λ _ ready. subst (λ (o : Option g.row.P.Denot). IfSome o g.P.Predictor.can_learn) (sym found) ready) c.reserve.ensures.ready;
      same =
          ap (λ states. context_state states (g.C.Context.state before.context))
          (states-stay g.P.Predictor.state before.predictors.items i c.index_mut.result.now c.reserve.new.self
          c.index_mut.ensures.value c.reserve.ensures.same);
    }
