use Rattle.std.proofs.Common.{◌/◌, ap, ◌∙◌}
use Rattle.constriction_backends_tests.proofs.numbers.half_way.Goals as goal

pub returns : goal.returns
returns g c =
    let P = g.met.P.BitArray in
    P.shr_law c.sub.result 1 c.shr.result c.shr.ensures
    ∙ ap (λ n. n / 2) (P.sub_law c.args.to c.args.from c.sub.result c.sub.ensures)
