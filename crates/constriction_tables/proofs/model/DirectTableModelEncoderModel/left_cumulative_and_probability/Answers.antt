use Rattle.std.proofs.Common.{◌≡◌, arith, Some}
use Rattle.constriction_model.specs.lemmas.Coding.{entry-positive, entry-within, rows-within}
use Rattle.constriction_model.specs.Rows.{entry_of}
use Rattle.constriction_tables.specs.ModelRows.{table_model_rows}
use Rattle.constriction_tables.specs.Table.{same_number}
use Rattle.constriction_tables.specs.lemmas.Tables.{table-tiles}
use Rattle.constriction_tables.proofs.model.DirectTableModelEncoderModel.left_cumulative_and_probability.Goals as goal

pub returns-clause-within : goal.returns-clause-within
returns-clause-within g c =
    let m = c.args.self.now in
    let number = g.Entry.TableEntry.number in
    let rows = table_model_rows m in
    let entry = c.in-Some.entry in
    let within = rows-within 32 _ _ (table-tiles number g.met.Entry.TableEntry.same_law 32 _ _ m.table) in
    let listed : Some (entry.left, entry.weight) ≡ entry_of (same_number number) rows c.args.symbol.now = c.in-Some.ensures in
    let positive = entry-positive g.row.PRECISION (same_number number) rows c.args.symbol.now (entry.left, entry.weight) listed within in
    let ends = entry-within g.row.PRECISION (same_number number) rows c.args.symbol.now (entry.left, entry.weight) listed within in
    (omega (arith, positive, c.to_weight.ensures), omega (arith, ends, c.to_weight.ensures))
