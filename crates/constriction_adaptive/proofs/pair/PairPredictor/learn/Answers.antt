use Rattle.std.proofs.Common.{List, map, refl, ap, sym, subst, ◌∙◌}
use Rattle.std.proofs.lemmas.List.{length-set}
use Rattle.constriction_model.specs.Rows.{Row, RowsTile}
use Rattle.either.specs.declared.Either.{Either}
use Rattle.either.specs.declared.Either.TheVariants.{Left, Right}
use Rattle.constriction_adaptive.specs.ByContext.{rows_if_any, context_state}
use Rattle.constriction_adaptive.specs.Pair.{pair_state, with_symbols, without_symbols}
use Rattle.constriction_adaptive.proofs.ByContextLemmas.{state-found, states-learned}
use Rattle.constriction_adaptive.proofs.PairLemmas.{right-learned, tile-of-side}
use Rattle.constriction_adaptive.proofs.pair.PairPredictor.learn.Goals as goal

pub invariant_of-self : goal.invariant_of-self
invariant_of-self g c =
    let m = c.args.self.now in
    let found = state-found m.rights.items c.index.result c.index-then-not-self.result.now c.index-then-not-self.ensures g.C.Context.number
    (g.C.Context.state c.learn-then-not-self.new.self) _ c.index.ensures.number (c.learn-then-not-self.ensures.as_many ∙ sym m.each)
    c.index.ensures.below g.B.Predictor.state in
    let side = tile-of-side {T = Either g.row.A-Symbol.Denot g.row.B-Symbol.Denot} Right 32 g.row.PRECISION _ c.rows_tile.ensures.tile in
    record {
      each = m.each ∙ sym c.learn-then-not-self.ensures.as_many;
      precise = c.rows_tile.ensures.precision;
      tile = subst (λ (rows : List (Row g.row.B-Symbol.Denot)). RowsTile 32 g.row.PRECISION
          (without_symbols (with_symbols {T = Either g.row.A-Symbol.Denot g.row.B-Symbol.Denot} Right rows)))
          (sym (ap (rows_if_any g.B.Predictor.rows) found)) side;
    }

pub invariant_of-self-then-self : goal.invariant_of-self-then-self
invariant_of-self-then-self g c =
    let m = c.args.self.now in record {
      each = length-set m.rights.items c.index-index.result c.learn-then-self.new.self ∙ m.each;
      precise = c.rows_tile-then-self.ensures.precision;
      tile = tile-of-side {T = Either g.row.A-Symbol.Denot g.row.B-Symbol.Denot} Left 32 g.row.PRECISION _
          c.rows_tile-then-self.ensures.tile;
    }

pub returns-then-self : goal.returns-then-self
returns-then-self g c =
    let m = c.args.self.now in
    let known = g.C.Context.state m.context in
    right-learned g.A.Predictor.next g.B.Predictor.next g.C.Context.number g.C.Context.next
    (pair_state (g.A.Predictor.state m.left) (context_state (map g.B.Predictor.state m.rights.items) known) m.is_right) c.args.symbol.now
    c.in-Right.symbol _ c.in-Right.is c.if-self.true
    (states-learned g.B.Predictor.state m.rights.items c.index-index.result c.index_mut.result.now c.learn-then-self.new.self
    c.index_mut.ensures.value g.B.Predictor.next g.C.Context.number (λ context _. context) known known c.in-Right.symbol _
    c.index-index.ensures.number (sym m.each) c.index-index.ensures.below c.learn-then-self.ensures refl)
