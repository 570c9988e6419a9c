use Rattle.std.proofs.Common.{ℕ, List, fold, ap, subst, sym, ◌∙◌}
use Rattle.std.proofs.lemmas.List.{map-id}
use Rattle.std.proofs.lemmas.Result.{IfOk-weaker}
use Rattle.constriction_adaptive.specs.Numbers.{all_bits, AreReadFrom}
use Rattle.constriction_adaptive.proofs.bytes.decode_bytes_of.Goals as goal

pub returns-clause-ok : goal.returns-clause-ok
returns-clause-ok g c =
    let rows = g.P.Predictor.rows in
    let next = g.P.Predictor.next in
    IfOk-weaker c.decode_numbers_of.result _ _
    (λ bytes read first begins. (
      subst (λ (ns : List ℕ). AreReadFrom 8 rows next first ns c.args.words.now) (map-id bytes.items) (read first begins).0,
      (read first begins).1 ∙ ap (λ (ns : List ℕ). fold next first (all_bits 8 ns)) (map-id bytes.items),
    ))
    c.decode_numbers_of.ensures.ok

pub returns-clause-back : goal.returns-clause-back
returns-clause-back g c =
    IfOk-weaker c.decode_numbers_of.result _ _
    (λ again back first bytes message more begins small long sent fit is.
    sym (map-id again.items) ∙ back first bytes message more begins small long sent fit is) c.decode_numbers_of.ensures.back
