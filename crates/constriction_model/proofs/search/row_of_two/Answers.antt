use Rattle.std.proofs.Common.{arith, rules, length}
use Rattle.std.proofs.lemmas.Grind.{common_steps}
use Rattle.constriction_model.proofs.Digits.{digits-zero, digits_two}
use Rattle.constriction_model.proofs.search.row_of_two.Goals as goal

pub returns : goal.returns
returns g c = record {
  narrowed = grind (arith, common_steps);
  same = search rules;
  counted = omega (arith, digits-zero, digits_two (length (g.R.Probe.cumulatives c.args.rows.now)) c.requires.two);
}
