use Rattle.std.proofs.Common.{◌-◌, ap, arith, refl}
use Rattle.constriction_model.specs.Rows.{uniform_rows}
use Rattle.constriction_model.proofs.UniformLemmas.{last-fits}
use Rattle.constriction_model.proofs.uniform.UniformModel.new.Goals as goal

pub from_number-last_symbol-requires : goal.from_number-last_symbol-requires
from_number-last_symbol-requires g c =
    (last-fits g.Probability.WholeNumber.BITS g.row.PRECISION c.args.range (c.args.range - 1) c.requires.precision.fits c.requires.some
    c.requires.within refl).2

pub invariant_of-result : goal.invariant_of-result
invariant_of-result g c =
    let last = last-fits g.Probability.WholeNumber.BITS g.row.PRECISION c.args.range _ c.requires.precision.fits c.requires.some
    c.requires.within c.from_number-last_symbol.ensures in
    record {
      precise = c.requires.precision;
      some = last.0;
      within = last.1;
      index = omega (arith, last.3);
      word = last.2;
      bin = c.probability_per_bin-bin.ensures.value;
      rest = c.last_probability-last.ensures.value;
    }

pub returns : goal.returns
returns g c =
    let last = last-fits g.Probability.WholeNumber.BITS g.row.PRECISION c.args.range _ c.requires.precision.fits c.requires.some
    c.requires.within c.from_number-last_symbol.ensures in
    ap (uniform_rows g.row.PRECISION) last.3
