use Rattle.std.proofs.Common.{refl}
use Rattle.constriction_model.specs.lemmas.Coding.{row-within}
use Rattle.constriction_model.specs.Model.{row_of}
use Rattle.constriction_model.specs.lemmas.UniformRows.{uniform-found, uniform-tiles}
use Rattle.constriction_model.proofs.uniform.UniformModelDecoderModel.quantile_function.Goals as goal

pub returns : goal.returns
returns g c =
    let m = c.args.self.now in
    let found = c.symbol_of-symbol.ensures in
    let row = c.row_words_of-left.ensures in
    let whole = g.Probability.WholeNumber.whole in
    let base = g.Probability.WholeNumber.base in
    let answered = c.row_words_of-left.result in
    let held = uniform-found g.row.PRECISION (whole m.last_symbol) m.within c.to_number.result (whole c.symbol_of-symbol.result)
    (whole answered.0) (whole (base answered.1)) c.to_number.ensures row.left row.weight
    _ _ c.requires.in_range m.bin found.before found.last in
    record {
      row = (c.to_number.result, refl, held);
      within =
          row-within g.Probability.WholeNumber.BITS g.row.PRECISION _ _
          (row_of whole base (c.to_number.result, answered.0, answered.1))
          (uniform-tiles g.row.PRECISION _ m.within _ m.precise.fits m.some) held;
      refused = tt;
    }
