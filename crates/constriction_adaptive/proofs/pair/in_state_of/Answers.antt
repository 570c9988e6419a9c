use Rattle.std.proofs.Common.{ap, sym, subst, ◌∙◌, length, map}
use Rattle.std.proofs.lemmas.List.{length-map}
use Rattle.constriction_model.specs.Rows.{RowsTile}
use Rattle.constriction_adaptive.specs.ByContext.{context_state}
use Rattle.constriction_adaptive.specs.Pair.{pair_state, rows_of_side, without_symbols}
use Rattle.constriction_adaptive.proofs.pair.in_state_of.Goals as goal

pub invariant_of-result : goal.invariant_of-result
invariant_of-result g c =
    let pair = c.args.pair.now in
    let context = g.C.Context.state pair.context in
    let states = map g.B.Predictor.state pair.rights.items in
    record {
      each = sym (length-map c.args.rights.items g.B.Predictor.state) ∙ ap length c.requires.rights
          ∙ length-map pair.rights.items g.B.Predictor.state ∙ pair.each;
      precise = pair.precise;
      tile = subst
          (λ s. RowsTile 32 g.row.PRECISION (without_symbols (rows_of_side g.A.Predictor.rows g.B.Predictor.rows g.C.Context.number s)))
          (ap (λ left. pair_state left (context_state states context) pair.is_right) (sym c.requires.left)
          ∙ ap (λ rights. pair_state (g.A.Predictor.state c.args.left) (context_state rights context) pair.is_right)
          (sym c.requires.rights)) pair.tile;
    }
