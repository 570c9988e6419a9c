use Rattle.std.proofs.Common.{arith}
use Rattle.std.proofs.lemmas.Grind.{common_steps}
use Rattle.constriction_stored_weights.proofs.models.stored_model_of.Goals as goal

pub returns-in-Ok-clause-accepted : goal.returns-in-Ok-clause-accepted
returns-in-Ok-clause-accepted g c =
    c.in-Ok.ensures.accepted c.args.symbols.items c.args.weights.items (grind (arith, common_steps)) (grind (arith, common_steps))

pub returns-in-Ok-clause-rows : goal.returns-in-Ok-clause-rows
returns-in-Ok-clause-rows g c =
    c.in-Ok.ensures.rows c.args.symbols.items c.args.weights.items (grind (arith, common_steps)) (grind (arith, common_steps))
