use Rattle.std.specs.HashMap.{get}
use Rattle.std.proofs.Common.{map}
use Rattle.constriction_model.specs.lemmas.Coding.{rows-within}
use Rattle.constriction_model.specs.Model.{row_of}
use Rattle.constriction_model.specs.lemmas.Stand.{tile-made}
use Rattle.constriction_categorical.proofs.CollectLemmas.{walked-all}
use Rattle.constriction_conversions.proofs.HashLemmas.{table-rows_within, found-within, table-count, table-same}
use Rattle.constriction_conversions.proofs.convert.to_generic_encoder_model.Goals as goal

pub invariant_of-result : goal.invariant_of-result
invariant_of-result g c =
    let whole = g.M.Probability.WholeNumber.whole in
    let base = g.M.Probability.WholeNumber.base in
    let bits = g.M.Probability.WholeNumber.BITS in
    let eq = g.M.Symbol.PartialEq.eq in
    let laws = g.met.M.Symbol.Eq.laws in
    let rows = g.M.EntropyModel.rows c.args.model in
    let M = g.met.M.IterableEntropyModel in
    let found = c.in_ok-table.ensures.found in
    let made = map (row_of whole base) found.0 in
    let stand = walked-all g.M.IterableEntropyModel.stands_for g.M.IterableEntropyModel.may_refuse whole base
    g.M.SymbolTable.Iterator.next_gives g.M.IterableEntropyModel.rows_left M.steps_law rows c.symbol_table.result
    c.symbol_table.ensures.all found.0 found.1 in
    record {
      precise = g.met.M.EntropyModel.precision_law c.args.model;
      distinct = c.in_ok-table.ensures.unique;
      within = table-rows_within eq laws (λ e. (whole e.left, whole (base e.weight))) g.row.PRECISION c.in_ok-table.table.entries
          c.in_ok-table.ensures.unique
          (found-within eq laws (λ e. (whole e.left, whole (base e.weight))) g.row.PRECISION made (get eq c.in_ok-table.table)
          (rows-within bits g.row.PRECISION made
          (tile-made g.M.IterableEntropyModel.stands_for bits g.row.PRECISION made rows stand (M.tile_law c.args.model)))
          (found.2 whole base));
    }

pub returns : goal.returns
returns g c =
    let whole = g.M.Probability.WholeNumber.whole in
    let base = g.M.Probability.WholeNumber.base in
    let eq = g.M.Symbol.PartialEq.eq in
    let laws = g.met.M.Symbol.Eq.laws in
    let rows = g.M.EntropyModel.rows c.args.model in
    let found = c.in_ok-table.ensures.found in
    let made = map (row_of whole base) found.0 in
    record {
      ok = record {
        made = made;
        stand = walked-all g.M.IterableEntropyModel.stands_for g.M.IterableEntropyModel.may_refuse whole base
            g.M.SymbolTable.Iterator.next_gives g.M.IterableEntropyModel.rows_left g.met.M.IterableEntropyModel.steps_law rows
            c.symbol_table.result c.symbol_table.ensures.all found.0 found.1;
        entries = table-same eq laws (λ e. (whole e.left, whole (base e.weight))) c.in_ok-table.table.entries made
            c.in_ok-table.ensures.unique (found.2 whole base);
        size = table-count eq laws (λ e. (whole e.left, whole (base e.weight))) c.in_ok-table.table.entries made
            c.in_ok-table.ensures.unique (found.2 whole base);
      };
      refused = tt;
    }
