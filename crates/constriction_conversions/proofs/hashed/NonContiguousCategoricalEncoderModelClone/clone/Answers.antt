use Rattle.constriction_conversions.specs.Hashed.{rows_of_table}
use Rattle.constriction_conversions.proofs.HashLemmas.{table-cloned, within-made}
use Rattle.constriction_conversions.proofs.hashed.NonContiguousCategoricalEncoderModelClone.clone.Goals as goal

pub invariant_of-result : goal.invariant_of-result
invariant_of-result g c =
    let whole = g.Probability.WholeNumber.whole in
    let base = g.Probability.WholeNumber.base in
    let m = c.args.self.now in
    record {
      precise = m.precise;
      distinct = c.len-len.ensures.unique;
      within =
          within-made g.Symbol.Clone.is_clone g.row.PRECISION
          (rows_of_table (λ e. (whole e.left, whole (base e.weight))) c.in_ok-table.table.entries)
          (rows_of_table (λ e. (whole e.left, whole (base e.weight))) m.table.entries)
          (table-cloned g.Symbol.Clone.is_clone (λ e. (whole e.left, whole (base e.weight))) m.table.entries c.in_ok-table.table.entries
          c.in_ok-table.ensures.cases) m.within;
    }

pub returns : goal.returns
returns g c =
    let whole = g.Probability.WholeNumber.whole in
    let base = g.Probability.WholeNumber.base in
    record {
      cases = table-cloned g.Symbol.Clone.is_clone (λ e. (whole e.left, whole (base e.weight))) c.args.self.now.table.entries
          c.in_ok-table.table.entries c.in_ok-table.ensures.cases;
    }
