use Rattle.std.proofs.Common.{◌≡◌, ◌∙◌, ap, arith, Err, refl, rules}
use Rattle.constriction_model.specs.declared.error.ModelError.TheVariants.{InvalidTable}
use Rattle.constriction_tables.specs.Table.{same_number}
use Rattle.constriction_tables.specs.lemmas.Tables.{same_number-equivalence}
use Rattle.constriction_tables.proofs.ByModel.{walked-again, walked-all, walked-stand, walked-within}
use Rattle.constriction_tables.proofs.by_model.table_of_model.Goals as goal

pub to_number-left-requires : goal.to_number-left-requires
to_number-left-requires g c =
    let M = g.met.M.IterableEntropyModel in
    let inv = c.rows.invariant in
    let within = walked-within g.M.IterableEntropyModel.stands_for g.M.IterableEntropyModel.may_refuse g.M.Probability.WholeNumber.whole
    g.M.Probability.WholeNumber.base g.M.IterableEntropyModel.rows_left c.rows.walk c.in-Some.row
    (c.in_ok-symbol.symbol, c.in_ok-symbol.left, c.in_ok-symbol.weight) c.next.new.self
    (M.steps_law _ _ _ c.in-Some.ensures.steps) c.in_ok-symbol.was (g.M.EntropyModel.rows c.args.model) inv.3 inv.4
    g.M.Probability.WholeNumber.BITS g.row.PRECISION (M.tile_law c.args.model) in
    omega (arith, within.1, c.quantile_count-all.ensures.value, c.quantile_count-all.ensures.small)

pub overflow_cast-left : goal.overflow_cast-left
overflow_cast-left g c =
    let M = g.met.M.IterableEntropyModel in
    let inv = c.rows.invariant in
    let within = walked-within g.M.IterableEntropyModel.stands_for g.M.IterableEntropyModel.may_refuse g.M.Probability.WholeNumber.whole
    g.M.Probability.WholeNumber.base g.M.IterableEntropyModel.rows_left c.rows.walk c.in-Some.row
    (c.in_ok-symbol.symbol, c.in_ok-symbol.left, c.in_ok-symbol.weight) c.next.new.self
    (M.steps_law _ _ _ c.in-Some.ensures.steps) c.in_ok-symbol.was (g.M.EntropyModel.rows c.args.model) inv.3 inv.4
    g.M.Probability.WholeNumber.BITS g.row.PRECISION (M.tile_law c.args.model) in
    omega (arith, within.1, c.quantile_count-all.ensures.value, c.quantile_count-all.ensures.small, c.to_number-left.ensures)

pub rows-preserved : goal.rows-preserved
rows-preserved g c =
    let M = g.met.M.IterableEntropyModel in
    let inv = c.rows.invariant in
    let next = c.in-Some.ensures.goes.on inv.1 in (
      next.0,
      next.1,
      _,
      _,
      walked-all g.M.IterableEntropyModel.stands_for g.M.IterableEntropyModel.may_refuse g.M.Probability.WholeNumber.whole
          g.M.Probability.WholeNumber.base g.M.IterableEntropyModel.rows_left c.rows.walk c.in-Some.row
          (c.in_ok-symbol.symbol, c.in_ok-symbol.left, c.in_ok-symbol.weight) c.next.new.self
          (M.steps_law _ _ _ c.in-Some.ensures.steps) c.in_ok-symbol.was (g.M.EntropyModel.rows c.args.model) inv.3 inv.4,
      walked-stand g.M.IterableEntropyModel.stands_for g.M.IterableEntropyModel.may_refuse g.M.Probability.WholeNumber.whole
          g.M.Probability.WholeNumber.base g.M.IterableEntropyModel.rows_left c.rows.walk c.in-Some.row
          (c.in_ok-symbol.symbol, c.in_ok-symbol.left, c.in_ok-symbol.weight) c.next.new.self
          (M.steps_law _ _ _ c.in-Some.ensures.steps) c.in_ok-symbol.was (g.M.EntropyModel.rows c.args.model) inv.3 inv.4
          inv.2 inv.5 c.to_number-left.result c.to_number-weight.result c.to_number-left.ensures
          (c.to_number-weight.ensures ∙ ap g.M.Probability.WholeNumber.whole c.from_weight.ensures),
      c.in_ok-take_row.ensures.held refl _ inv.6,
    )

pub returns-in_err-take_row-clause-invalid : goal.returns-in_err-take_row-clause-invalid
returns-in_err-take_row-clause-invalid g c = λ h.
    let M = g.met.M.IterableEntropyModel in
    let inv = c.rows.invariant in
    let e : c.take_row.result ≡ Err InvalidTable = search rules in
    let again = c.take_row.ensures.repeated e inv.2 inv.6 in (
      _,
      _,
      _,
      walked-all g.M.IterableEntropyModel.stands_for g.M.IterableEntropyModel.may_refuse g.M.Probability.WholeNumber.whole
          g.M.Probability.WholeNumber.base g.M.IterableEntropyModel.rows_left c.rows.walk c.in-Some.row
          (c.in_ok-symbol.symbol, c.in_ok-symbol.left, c.in_ok-symbol.weight) c.next.new.self
          (M.steps_law _ _ _ c.in-Some.ensures.steps) c.in_ok-symbol.was (g.M.EntropyModel.rows c.args.model) inv.3 inv.4,
      walked-stand g.M.IterableEntropyModel.stands_for g.M.IterableEntropyModel.may_refuse g.M.Probability.WholeNumber.whole
          g.M.Probability.WholeNumber.base g.M.IterableEntropyModel.rows_left c.rows.walk c.in-Some.row
          (c.in_ok-symbol.symbol, c.in_ok-symbol.left, c.in_ok-symbol.weight) c.next.new.self
          (M.steps_law _ _ _ c.in-Some.ensures.steps) c.in_ok-symbol.was (g.M.EntropyModel.rows c.args.model) inv.3 inv.4
          inv.2 inv.5 c.to_number-left.result c.to_number-weight.result c.to_number-left.ensures
          (c.to_number-weight.ensures ∙ ap g.M.Probability.WholeNumber.whole c.from_weight.ensures),
      walked-again g.M.IterableEntropyModel.stands_for g.M.IterableEntropyModel.may_refuse g.M.Probability.WholeNumber.whole
          g.M.Probability.WholeNumber.base g.M.IterableEntropyModel.rows_left c.rows.walk c.in-Some.row
          (c.in_ok-symbol.symbol, c.in_ok-symbol.left, c.in_ok-symbol.weight) c.next.new.self
          (M.steps_law _ _ _ c.in-Some.ensures.steps) c.in_ok-symbol.was (g.M.EntropyModel.rows c.args.model) inv.3 inv.4
          inv.2 inv.5 c.to_number-left.result c.to_number-weight.result c.to_number-left.ensures
          (c.to_number-weight.ensures ∙ ap g.M.Probability.WholeNumber.whole c.from_weight.ensures)
          (same_number g.Entry.TableEntry.number)
          (same_number-equivalence g.Entry.TableEntry.number g.met.Entry.TableEntry.same_law).symm again,
    )
