use Rattle.std.proofs.Common.{◌≡◌, ◌∙◌, arith, Err, false, List, refl, rules, subst, sym, true}
use Rattle.std.proofs.lemmas.List.Sums.{sum_by_more}
use Rattle.constriction_model.specs.declared.error.ModelError.TheVariants.{InvalidTable}
use Rattle.constriction_model.specs.Rows.{Row}
use Rattle.constriction_tables.specs.Table.{weighted_rows}
use Rattle.constriction_tables.specs.private.Partial.{HoldsTable}
use Rattle.constriction_tables.proofs.ByNumber.{weighted-more, weighted-new, weighted-same}
use Rattle.constriction_tables.proofs.by_number.table_of_weights.Goals as goal
use Rattle.constriction_tables.proofs.by_number.table_of_weights.Goals.{then-weight-gt0+in_ok-take_row, else-weight-gt0}

pub returns-in_err-take_row-clause-invalid : goal.returns-in_err-take_row-clause-invalid
returns-in_err-take_row-clause-invalid g c = λ h.
    let e : c.take_row.result ≡ Err InvalidTable = search rules in
    let again = c.take_row.ensures.repeated e _ c.loop-number.invariant.held in
    let new = weighted-new g.Entry.TableEntry.symbol_of c.args.weights.now c.loop-number.number c.loop-number-test.true
    g.Entry.TableEntry.number g.met.Entry.TableEntry.number_law c.from_index.result c.from_index.ensures in
    let bad : true ≡ false = sym again ∙ new in
    absurd (cc)

pub loop-number-preserved : goal.loop-number-preserved
loop-number-preserved g c =
    let rows = weighted_rows g.Entry.TableEntry.symbol_of in
    let ws = c.args.weights.now in
    let i = c.loop-number.number in
    let more = sum_by_more (λ x. x) ws i 0 c.loop-number-test.true in
    elim c.if-weight-gt0.branch [
      | then-weight-gt0+in_ok-take_row w ↦ record {
        held = rw w.table-is
            (subst (λ (rs : List (Row g.row.Entry-Symbol.Denot)). HoldsTable g.Entry.TableEntry.number g.Entry.TableEntry.row_in
            g.Entry.TableEntry.ROW_BITS w.take_row.new.self.entries.items w.take_row.new.self.by_symbol.items rs)
            (weighted-more g.Entry.TableEntry.symbol_of ws i c.loop-number-test.true w.from_index.result c.loop-number.left
            w.if-weight-gt0.true w.from_index.ensures c.loop-number.invariant.total)
            (w.in_ok-take_row.ensures.held refl _ c.loop-number.invariant.held));
        total = omega (arith, more, w.left-is, c.loop-number.invariant.total);
        within = omega (arith, w.left-is, c.if-weight-total.false, c.quantile_count-total.ensures.value, c.loop-number.invariant.within);
      }
      | else-weight-gt0 w ↦ record {
        held = rw w.table-is
            (subst (λ (rs : List (Row g.row.Entry-Symbol.Denot)). HoldsTable g.Entry.TableEntry.number g.Entry.TableEntry.row_in
            g.Entry.TableEntry.ROW_BITS c.loop-number.table.entries.items c.loop-number.table.by_symbol.items rs)
            (weighted-same g.Entry.TableEntry.symbol_of ws i c.loop-number-test.true (omega (arith, w.if-weight-gt0.false)))
            c.loop-number.invariant.held);
        total = omega (arith, more, w.left-is, c.loop-number.invariant.total, w.if-weight-gt0.false);
        within = omega (arith, w.left-is, c.loop-number.invariant.within);
      }
    ]
