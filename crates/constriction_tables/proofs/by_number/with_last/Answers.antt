use Rattle.std.proofs.Common.{◌≡◌, ◌-◌, ◌^◌, ◌<◌, ◌∙◌, ap, arith, Err, false, List, refl, rules, subst, sym, true}
use Rattle.std.specs.Prelude.{sum}
use Rattle.std.specs.List.{list_any}
use Rattle.constriction_model.specs.declared.error.ModelError.TheVariants.{InvalidTable}
use Rattle.constriction_model.specs.Rows.{Row, symbols_of}
use Rattle.constriction_tables.specs.Table.{same_number, weighted_rows}
use Rattle.constriction_tables.specs.private.Partial.{HoldsTable}
use Rattle.constriction_tables.proofs.ByNumber.{weighted-absent, weighted-last}
use Rattle.constriction_tables.proofs.by_number.with_last.Goals as goal

pub returns-in_err-take_row-clause-invalid : goal.returns-in_err-take_row-clause-invalid
returns-in_err-take_row-clause-invalid g c = λ h.
    let e : c.take_row.result ≡ Err InvalidTable = search rules in
    let again = c.take_row.ensures.repeated e _ c.requires.held in
    let new = weighted-absent g.Entry.TableEntry.number g.Entry.TableEntry.symbol_of g.met.Entry.TableEntry.number_law c.args.weights.now in
    let bad : true ≡ false =
    sym again
    ∙ ap (λ s. list_any (same_number g.Entry.TableEntry.number s)
    (symbols_of (weighted_rows g.Entry.TableEntry.symbol_of c.args.weights.now))) c.from_index.ensures ∙ new in
    absurd (cc)

pub returns-clause-held : goal.returns-clause-held
returns-clause-held g c =
    let some : 0 < 2 ^ g.row.PRECISION - sum c.args.weights.now =
    omega (arith, c.requires.total, c.requires.within, c.if-total-all.false, c.quantile_count-all.ensures.value) in
    subst (λ (rs : List (Row g.row.Entry-Symbol.Denot)). HoldsTable g.Entry.TableEntry.number g.Entry.TableEntry.row_in
    g.Entry.TableEntry.ROW_BITS c.take_row.new.self.entries.items c.take_row.new.self.by_symbol.items rs)
    (weighted-last g.Entry.TableEntry.symbol_of c.args.weights.now (2 ^ g.row.PRECISION - sum c.args.weights.now) c.from_index.result
    c.args.total (c.quantile_count-all.result - c.args.total) some c.from_index.ensures c.requires.total
    (omega (arith, c.requires.total, c.quantile_count-all.ensures.value)))
    (c.in_ok-take_row.ensures.held refl _ c.requires.held)
