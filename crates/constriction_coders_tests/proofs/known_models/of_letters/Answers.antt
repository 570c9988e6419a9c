use Rattle.std.proofs.Common.{arith}
use Rattle.std.proofs.lemmas.Grind.{common_steps}
use Rattle.constriction_coders_tests.proofs.known_models.of_letters.Goals as goal

pub returns-clause-accepted : goal.returns-clause-accepted
returns-clause-accepted c =
    c.from_symbols_and_nonzero_fixed_point_probabilities.ensures.accepted c.args.letters.items c.args.weights.items
    (grind (arith, common_steps)) (grind (arith, common_steps))

pub returns-clause-rows : goal.returns-clause-rows
returns-clause-rows c =
    c.from_symbols_and_nonzero_fixed_point_probabilities.ensures.rows c.args.letters.items c.args.weights.items
    (grind (arith, common_steps)) (grind (arith, common_steps))
