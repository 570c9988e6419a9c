use Rattle.std.proofs.Common.{List, None, refl, subst, sym, ◌∙◌}
use Rattle.std.proofs.lemmas.Iterator.Adapters.{YieldsList-from_vec}
use Rattle.std.proofs.lemmas.Iterator.Consumers.{YieldsList-end}
use Rattle.std.proofs.lemmas.List.{map-id}
use Rattle.constriction_coders.specs.AnsCoder.{held_by}
use Rattle.constriction_coders.specs.Places.{entry_at}
use Rattle.constriction_adaptive.specs.Predicted.{predicted_entry, AreStacked}
use Rattle.constriction_adaptive_tests.proofs.learned.on_a_stack.Goals as goal

pub returns-in-Ok : goal.returns-in-Ok
returns-in-Ok g c =
    let given = c.in-Ok.ensures in
    let symbols = c.args.symbols in
    let end = given.2.1 in
    let all = YieldsList-from_vec symbols.items given.1.0 (given.1.1 ∙ symbols.ok.0) in
    subst (λ (xs : List g.row.P-Symbol.Denot). AreStacked g.P.Predictor.next
    (entry_at (predicted_entry g.P.Predictor.rows g.P.Model.EncoderModel.symbol_eq)) g.row.PRECISION xs
    (g.P.Predictor.state c.args.predictor.now) (held_by c.args.coder.now)
    (g.P.Predictor.state c.encode_adaptively_from_iter.new.predictor) (held_by c.encode_adaptively_from_iter.new.coder))
    (sym (map-id given.2.0) ∙ (YieldsList-end all given.2.0 end.1.0 end.1.1 None end.0 refl end.1.2).0) given.2.2
