use Rattle.std.proofs.Common.{ap}
use Rattle.constriction_backends_tests.proofs.RowLemmas.{rows_agree}
use Rattle.constriction_backends_tests.proofs.weights.are_same_row.Goals as goal

pub returns : goal.returns
returns g c =
    let a = c.args.a in
    let b = c.args.b in
    let word = g.met.P.BitArray in
    let number = g.met.P.WholeNumber in
    let weight = g.met.P.NonZero.NonZeroBitArray in
    rows_agree a b _ _
    ((λ t. number.same_law a.1 b.1 ((word.eq_law a.1 b.1).0 t)), (λ e. (word.eq_law a.1 b.1).1 (ap g.P.WholeNumber.whole e))) (
      (λ t. weight.same_law a.2 b.2 ((weight.eq_law a.2 b.2).0 t)),
      (λ e. (weight.eq_law a.2 b.2).1 (ap g.P.NonZero.NonZeroBitArray.base e)),
    )
    c.eq.result c.eq.ensures
