use Rattle.std.proofs.Common.{◌*◌, ◌/◌, ◌-◌, ◌^◌, refl, ap, sym, ◌∙◌}
use Rattle.constriction_adaptive.proofs.UniformBitsLemmas.{bits-lie, bits-row, quotient-below}
use Rattle.constriction_adaptive.proofs.uniform_bits.UniformBitsDecoderModel.quantile_function.Goals as goal

pub returns-clause-row : goal.returns-clause-row
returns-clause-row g c =
    let m = c.args.self.now in
    let symbol = c.args.quantile / 2 ^ (g.row.PRECISION - m.bits) in
    let weight_is = c.to_weight.ensures ∙ c.weight-weight.ensures in (
      symbol,
      refl,
      bits-row g.row.PRECISION m.bits m.within symbol _ _ (ap (λ n. symbol * n) (sym c.to_weight.ensures)) weight_is c.args.quantile
          c.requires.in_range (ap (λ n. c.args.quantile / n) (sym weight_is)),
    )

pub returns-clause-within : goal.returns-clause-within
returns-clause-within g c =
    let m = c.args.self.now in
    bits-lie g.row.PRECISION m.bits m.within _ _ _ (quotient-below g.row.PRECISION m.bits m.within c.args.quantile c.requires.in_range)
    c.weight-weight.ensures c.to_weight.ensures
