use Rattle.std.proofs.Common.{◌∙◌, [], ◌∷◌, ◌++◌, ap, map, sym, take, arith}
use Rattle.std.proofs.lemmas.List.{map_push, take_more}
use Rattle.constriction_adaptive.proofs.by_context.snapshots.Goals as goal

pub loop-predictor-preserved : goal.loop-predictor-preserved
loop-predictor-preserved g c =
    let state = g.P.Predictor.state in
    let i = c.loop-predictor.predictor-index in
    let x = c.predictor-item.result in
    let more = take_more c.args.predictors.now i x c.loop-predictor-test.true
    ∙ ap (λ y. take i c.args.predictors.now ++ y ∷ []) (sym c.predictor-item.is) in
    record {
      counted = omega (arith, c.push_reserved.ensures.len, c.loop-predictor.invariant.counted);
      room = c.push_reserved.ensures.capacity ∙ c.loop-predictor.invariant.room;
      copied =
          ap (map state) c.push_reserved.ensures.items ∙ map_push state c.loop-predictor.copies.items _
          ∙ ap (λ s. map state c.loop-predictor.copies.items ++ s ∷ []) c.in_ok-snapshot.ensures
          ∙ ap (λ ss. ss ++ state x ∷ []) c.loop-predictor.invariant.copied
          ∙ sym (map_push state (take i c.args.predictors.now) x) ∙ sym (ap (map state) more);
    }
