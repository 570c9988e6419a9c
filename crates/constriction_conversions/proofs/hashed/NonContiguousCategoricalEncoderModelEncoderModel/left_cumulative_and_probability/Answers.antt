use Rattle.std.proofs.Common.{Some, None}
use Rattle.constriction_model.specs.lemmas.Coding.{words-within}
use Rattle.constriction_conversions.proofs.HashLemmas.{table-answer}
use Rattle.constriction_conversions.proofs.hashed.NonContiguousCategoricalEncoderModelEncoderModel.left_cumulative_and_probability.Goals as goal

pub returns-in-Some : goal.returns-in-Some
returns-in-Some g c =
    let whole = g.Probability.WholeNumber.whole in
    let base = g.Probability.WholeNumber.base in
    let m = c.args.self.now in
    let entry = c.in-Some.entry.now in
    let found = table-answer g.Symbol.PartialEq.eq g.met.Symbol.Eq.laws (λ e. (whole e.left, whole (base e.weight))) m.table.entries
    c.args.symbol.now m.distinct (Some entry) c.in-Some.ensures.value in
    record {
      entry = found;
      within = words-within g.row.PRECISION g.Symbol.PartialEq.eq _ c.args.symbol.now whole base
          (Some (entry.left, entry.weight)) found m.within;
    }

pub returns-in-None : goal.returns-in-None
returns-in-None g c =
    let whole = g.Probability.WholeNumber.whole in
    let base = g.Probability.WholeNumber.base in
    let m = c.args.self.now in
    record {
      entry = table-answer g.Symbol.PartialEq.eq g.met.Symbol.Eq.laws (λ e. (whole e.left, whole (base e.weight))) m.table.entries
          c.args.symbol.now m.distinct None c.in-None.ensures.value;
      within = tt;
    }
