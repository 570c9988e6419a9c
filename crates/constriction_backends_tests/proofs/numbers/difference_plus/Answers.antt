use Rattle.std.proofs.Common.{arith, ap, ◌∙◌}
use Rattle.constriction_backends_tests.proofs.numbers.difference_plus.Goals as goal

pub returns : goal.returns
returns g c =
    let P = g.met.P.BitArray in
    omega (
      arith,
      c.requires.order,
      P.sub_law c.args.a c.args.b c.sub.result c.sub.ensures,
      ap g.P.WholeNumber.whole c.one.ensures ∙ P.one_law,
      P.add_law c.sub.result c.one.result c.add.result c.add.ensures,
    )
