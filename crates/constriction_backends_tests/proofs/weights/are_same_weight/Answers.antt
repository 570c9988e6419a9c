use Rattle.std.proofs.Common.{ap, sym, ◌∙◌}
use Rattle.constriction_backends_tests.proofs.weights.are_same_weight.Goals as goal

pub returns : goal.returns
returns g c =
    let equal = g.met.P.NonZero.NonZeroBitArray.eq_law c.args.a c.args.b in (
      λ t. ap g.P.WholeNumber.whole (equal.0 (sym c.eq.ensures ∙ t)),
      λ e. c.eq.ensures ∙ equal.1 (g.met.P.WholeNumber.same_law _ _ e),
    )
