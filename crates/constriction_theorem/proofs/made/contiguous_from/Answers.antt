use Rattle.std.proofs.Common.{map, arith}
use Rattle.std.proofs.lemmas.Grind.{common_steps}
use Rattle.constriction_theorem.proofs.made.contiguous_from.Goals as goal

pub returns-clause-accepted : goal.returns-clause-accepted
returns-clause-accepted g c =
    c.from_nonzero_fixed_point_probabilities.ensures.accepted (map g.Probability.WholeNumber.whole c.args.weights.items)
    (grind (arith, common_steps))

pub returns-clause-rows : goal.returns-clause-rows
returns-clause-rows g c =
    c.from_nonzero_fixed_point_probabilities.ensures.rows (map g.Probability.WholeNumber.whole c.args.weights.items)
    (grind (arith, common_steps))

pub returns-clause-invalid : goal.returns-clause-invalid
returns-clause-invalid g c =
    c.from_nonzero_fixed_point_probabilities.ensures.invalid (map g.Probability.WholeNumber.whole c.args.weights.items)
    (grind (arith, common_steps))
