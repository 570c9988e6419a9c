use Rattle.std.proofs.Common.{map, arith}
use Rattle.std.proofs.lemmas.Grind.{common_steps}
use Rattle.constriction_client_tests.proofs.known_models.decoder_of.Goals as goal

pub returns-clause-rows : goal.returns-clause-rows
returns-clause-rows c =
    c.from_symbols_and_nonzero_fixed_point_probabilities.ensures.rows c.args.symbols (map (λ w. w) c.args.weights)
    (grind (arith, common_steps)) (grind (arith, common_steps))

pub returns-clause-accepted : goal.returns-clause-accepted
returns-clause-accepted c =
    c.from_symbols_and_nonzero_fixed_point_probabilities.ensures.accepted c.args.symbols (map (λ w. w) c.args.weights)
    (grind (arith, common_steps)) (grind (arith, common_steps))
