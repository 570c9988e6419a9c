use Rattle.std.proofs.Common.{arith, Some}
use Rattle.std.specs.Prelude.{nat_eq}
use Rattle.constriction_model.specs.lemmas.Coding.{words-within}
use Rattle.constriction_model.specs.lemmas.UniformRows.{uniform-entry, uniform-no_entry, uniform-within}
use Rattle.constriction_model.proofs.uniform.UniformModelEncoderModel.left_cumulative_and_probability.Goals as goal

pub returns-then-symbol-to_number : goal.returns-then-symbol-to_number
returns-then-symbol-to_number g c =
    let row = c.row_words_of.ensures in
    let whole = g.Probability.WholeNumber.whole in
    let base = g.Probability.WholeNumber.base in
    let m = c.args.self.now in
    let answered = c.row_words_of.result in
    let found = uniform-entry g.row.PRECISION (whole m.last_symbol) m.within c.args.symbol.now
    (whole c.from_number.result) (whole answered.0) (whole (base answered.1))
    c.from_number.ensures row.left row.weight
    (omega (arith, c.if-symbol-to_number.true, c.to_number.ensures)) in
    record {
      entry = found;
      within = words-within g.row.PRECISION nat_eq _ c.args.symbol.now whole base (Some answered) found
          (uniform-within g.row.PRECISION _ m.within _ m.precise.fits m.some);
    }

pub returns-else-symbol-to_number : goal.returns-else-symbol-to_number
returns-else-symbol-to_number g c = record {
  entry = uniform-no_entry g.row.PRECISION _ c.args.self.now.within c.args.symbol.now
      (omega (arith, c.if-symbol-to_number.false, c.to_number.ensures));
  within = tt;
}
