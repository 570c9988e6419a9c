use Rattle.std.proofs.Common.{arith, rules}
use Rattle.constriction_theorem.proofs.Uniform.{few, are-uniform, uniform-many, uniform-before}
use Rattle.constriction_theorem.proofs.dividing.range_of.Goals.{then-last-eq0-via-then-last-eq0, then-last-eq0-via-else-last-eq0+then-last-quantiles, then-last-eq0-via-else-last-eq0+else-last-quantiles+then-not-all_have_number}
use Rattle.constriction_theorem.proofs.dividing.range_of.Goals as goal

pub returns-then-last-eq0 : goal.returns-then-last-eq0
returns-then-last-eq0 g c = λ tiles m some e.
    let whole = g.Word.WholeNumber.whole in
    let precision = g.row.PRECISION in
    let before = c.in_ok-before.before.now in
    let ends = c.in_ok-before.ensures in
    elim c.then-last-eq0.branch [
      | then-last-eq0-via-then-last-eq0 w ↦
          omega (arith, w.if-last-eq0.true, some, uniform-many whole precision before ends.0 ends.1 tiles m some e)
      | then-last-eq0-via-else-last-eq0+then-last-quantiles w ↦
          omega (arith, w.if-last-quantiles.true, c.quantiles-quantiles.ensures, few whole precision before ends.0 ends.1 tiles)
      | then-last-eq0-via-else-last-eq0+else-last-quantiles+then-not-all_have_number w ↦
          let wrong = w.if-not-all_have_number.ensures.1
          (rw c.quantiles-quantiles.ensures (uniform-before whole precision before ends.0 ends.1 tiles m some e)) in
          absurd (cc)
    ]

pub returns : goal.returns
returns g c = λ tiles.
    let ends = c.in_ok-before.ensures in (
      omega arith,
      omega arith,
      are-uniform g.Word.WholeNumber.whole g.row.PRECISION c.in_ok-before.before.now ends.0 ends.1 tiles
          (rw c.quantiles-quantiles.ensures at (c.if-not-all_have_number.ensures.0 (search rules))),
    )
