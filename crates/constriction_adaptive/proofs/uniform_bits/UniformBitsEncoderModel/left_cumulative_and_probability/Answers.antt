use Rattle.std.proofs.Common.{◌*◌, ◌-◌, Fits, w32, ap, sym, subst, ◌∙◌, arith}
use Rattle.std.proofs.Math.Pow.{pow_mono}
use Rattle.std.proofs.lemmas.Nat.{one_shl, pow_pos}
use Rattle.constriction_adaptive.proofs.UniformBitsLemmas.{bits-entry, bits-fit, bits-lie, bits-no_entry}
use Rattle.constriction_adaptive.proofs.uniform_bits.UniformBitsEncoderModel.left_cumulative_and_probability.Goals as goal

pub returns-then-symbol-self-clause-entry : goal.returns-then-symbol-self-clause-entry
returns-then-symbol-self-clause-entry g c =
    let m = c.args.self.now in
    let many = one_shl m.bits 64 (omega (arith, m.within, m.precise.fits)) in
    bits-no_entry g.row.PRECISION m.bits m.within c.args.symbol.now (omega (arith, many, c.if-symbol-self.true))

pub overflow_mul-result : goal.overflow_mul-result
overflow_mul-result g c =
    let m = c.args.self.now in
    let many = one_shl m.bits 64 (omega (arith, m.within, m.precise.fits)) in
    let fit = bits-fit g.row.PRECISION m.bits m.within c.args.symbol.now (omega (arith, many, c.if-symbol-self.false)) in
    let word = pow_mono {i = g.row.PRECISION} {j = 31} m.precise.fits in
    subst (λ n. Fits w32 (c.args.symbol.now * n)) (sym c.weight-weight.ensures)
    (omega (arith, fit, word, pow_pos (g.row.PRECISION - m.bits)))

pub returns-clause-entry : goal.returns-clause-entry
returns-clause-entry g c =
    let m = c.args.self.now in
    let many = one_shl m.bits 64 (omega (arith, m.within, m.precise.fits)) in
    bits-entry g.row.PRECISION m.bits m.within c.args.symbol.now _ _ (ap (λ n. c.args.symbol.now * n) (sym c.to_weight.ensures))
    (c.to_weight.ensures ∙ c.weight-weight.ensures) (omega (arith, many, c.if-symbol-self.false))

pub returns-clause-within : goal.returns-clause-within
returns-clause-within g c =
    let m = c.args.self.now in
    let many = one_shl m.bits 64 (omega (arith, m.within, m.precise.fits)) in
    bits-lie g.row.PRECISION m.bits m.within c.args.symbol.now _ _ (omega (arith, many, c.if-symbol-self.false))
    c.weight-weight.ensures c.to_weight.ensures
