use Rattle.std.proofs.Common.{map, arith}
use Rattle.std.proofs.lemmas.Grind.{common_steps}
use Rattle.constriction_test_support.proofs.given.of_four.Goals as goal

pub returns-clause-accepted : goal.returns-clause-accepted
returns-clause-accepted c =
    c.from_nonzero_fixed_point_probabilities.ensures.accepted (map (λ w. w) c.args.weights)
    (grind (arith, common_steps))
