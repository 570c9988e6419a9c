use Rattle.std.proofs.Common.{◌≡◌, true, false, List, Option, IfSome, ap, map, set, sym, subst, ◌∙◌, arith, get_or-set_same}
use Rattle.std.proofs.lemmas.List.{length-set}
use Rattle.std.proofs.lemmas.Result.{IfOk-weaker}
use Rattle.constriction_model.specs.Rows.{RowsTile}
use Rattle.constriction_adaptive.specs.ByContext.{context_state}
use Rattle.constriction_adaptive.specs.Pair.{pair_state, rows_of_side, without_symbols}
use Rattle.constriction_adaptive.proofs.ByContextLemmas.{item-found, states-stay}
use Rattle.constriction_adaptive.proofs.pair.PairPredictor.reserve.Goals as goal

pub invariant_of-self : goal.invariant_of-self
invariant_of-self g c =
    let m = c.args.self.now in
    let right = context_state (map g.B.Predictor.state m.rights.items) (g.C.Context.state m.context) in
    record {
      each = m.each;
      precise = m.precise;
      tile = subst (λ (s : g.A.Predictor.State). RowsTile 32 g.row.PRECISION
          (without_symbols (rows_of_side g.A.Predictor.rows g.B.Predictor.rows g.C.Context.number (pair_state s right m.is_right))))
          (sym c.reserve.ensures.same) m.tile;
    }

pub returns-then-not-self : goal.returns-then-not-self
returns-then-not-self g c =
    let m = c.args.self.now in
    record {
      ready =
          IfOk-weaker c.reserve.result _ _
          (λ _ ready. (λ _. ready, λ h. absurd (let wrong : false ≡ true = sym c.if-not-self.true ∙ h in cc)))
          c.reserve.ensures.ready;
      same =
          ap (λ (s : g.A.Predictor.State).
          pair_state s (context_state (map g.B.Predictor.state m.rights.items) (g.C.Context.state m.context)) m.is_right)
          c.reserve.ensures.same;
    }

pub invariant_of-self-2 : goal.invariant_of-self-2
invariant_of-self-2 g c =
    let m = c.args.self.now in
    let stay = states-stay g.B.Predictor.state m.rights.items c.index-index.result c.index_mut.result.now c.reserve-2.new.self
    c.index_mut.ensures.value c.reserve-2.ensures.same in
    record {
      each = length-set m.rights.items c.index-index.result c.reserve-2.new.self ∙ m.each;
      precise = m.precise;
      tile = subst (λ states. RowsTile 32 g.row.PRECISION
          (without_symbols (rows_of_side g.A.Predictor.rows g.B.Predictor.rows g.C.Context.number
          (pair_state (g.A.Predictor.state m.left) (context_state states (g.C.Context.state m.context)) m.is_right)))) (sym stay) m.tile;
    }

pub returns-clause-ready : goal.returns-clause-ready
returns-clause-ready g c =
    let m = c.args.self.now in
    let i = c.index-index.result in
    let items : List g.row.B.Denot = set m.rights.items i c.reserve-2.new.self in
    let many = sym m.each ∙ sym (length-set m.rights.items i c.reserve-2.new.self) in
    let there = sym (get_or-set_same m.rights.items i c.reserve-2.new.self c.reserve-2.new.self
    (omega (arith, c.index-index.ensures.below, m.each))) in
    let found = item-found items i c.reserve-2.new.self there g.C.Context.number (g.C.Context.state m.context) _
    c.index-index.ensures.number many c.index-index.ensures.below in
    IfOk-weaker c.reserve-2.result _ _ (λ _ ready. (
      λ h. absurd (let wrong : false ≡ true = sym h ∙ c.if-not-self.false in cc),
      λ _. subst (λ (o : Option g.row.B.Denot). IfSome o g.B.Predictor.can_learn) (sym found) ready,
    )) c.reserve-2.ensures.ready

pub returns-clause-same : goal.returns-clause-same
returns-clause-same g c =
    let m = c.args.self.now in
    ap (λ states. pair_state (g.A.Predictor.state m.left) (context_state states (g.C.Context.state m.context)) m.is_right)
    (states-stay g.B.Predictor.state m.rights.items c.index-index.result c.index_mut.result.now c.reserve-2.new.self
    c.index_mut.ensures.value c.reserve-2.ensures.same)
