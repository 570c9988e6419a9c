use Rattle.std.proofs.Common.{◌<◌, ◌∙◌, arith, length, refl}
use Rattle.constriction_model.specs.Rows.{Row, IsRowOf}
use Rattle.constriction_model.specs.lemmas.Coding.{row-within}
use Rattle.constriction_tables.specs.ModelRows.{table_model_rows}
use Rattle.constriction_tables.specs.lemmas.Tables.{table-tiles}
use Rattle.constriction_tables.proofs.Reading.{read-parts}
use Rattle.constriction_tables.proofs.model.DirectTableModelDecoderModel.quantile_function.Goals as goal
use Rattle.constriction_tables.proofs.model.DirectTableModelDecoderModel.quantile_function.Given.{Over}

-- the row that is answered
abbrev answered : (g : Over) (c : goal.After-to_weight g) → Row g.row.Entry-Symbol.Denot
answered g c = record { symbol = c.symbol.result; left = c.left_cumulative.result; weight = c.to_weight.result.value }

-- it is the row of the quantile
is_row : (g : Over) (c : goal.After-to_weight g) → IsRowOf (table_model_rows c.args.self.now) c.args.quantile (answered g c)
is_row g c =
    let m = c.args.self.now in
    let below : c.args.quantile < length m.entries.items = omega (arith, c.requires.in_range, m.full) in
    read-parts g.Entry.TableEntry.number g.met.Entry.TableEntry.same_law g.Entry.TableEntry.row_in 32 g.row.PRECISION m.entries.items
    m.table c.args.quantile c.index-entry.result.now below c.index-entry.ensures _ _ _ c.symbol.ensures c.left_cumulative.ensures
    (c.to_weight.ensures ∙ c.weight.ensures.value)

pub returns-clause-row : goal.returns-clause-row
returns-clause-row g c = (c.symbol.result, refl, is_row g c)

pub returns-clause-within : goal.returns-clause-within
returns-clause-within g c =
    row-within 32 _ _ _ (answered g c)
    (table-tiles g.Entry.TableEntry.number g.met.Entry.TableEntry.same_law 32 _ _ c.args.self.now.table) (is_row g c)
