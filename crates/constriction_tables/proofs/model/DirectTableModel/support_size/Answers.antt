use Rattle.std.proofs.Common.{◌≡◌, ◌≤◌, ◌^◌, ap, arith, length, map}
use Rattle.std.proofs.Math.Pow.{pow_mono}
use Rattle.std.proofs.lemmas.List.{length-map}
use Rattle.constriction_model.specs.lemmas.Walks.{first-given}
use Rattle.constriction_tables.specs.Table.{rows_after}
use Rattle.constriction_tables.proofs.Walking.{begun-few}
use Rattle.constriction_tables.proofs.model.DirectTableModel.support_size.Goals as goal

-- no more rows than quantiles, of which 2 ^ 32 are the most
pub overflow_add-count : goal.overflow_add-count
overflow_add-count g c =
    let m = c.args.self.now in
    let given = first-given (λ s t. t ≡ s) (λ _. ⊥) _ _ (λ t. rows_after t.from (map g.Entry.TableEntry.row_in t.entries.now))
    c.rows.walk c.in-Some.field-0 c.next.new.self c.in-Some.ensures.steps in
    let few = begun-few 0 (map g.Entry.TableEntry.row_in m.entries.items) in
    let most : 2 ^ g.row.PRECISION ≤ 2 ^ 32 = pow_mono m.precise.fits in
    omega (arith, c.rows.invariant.2, ap length given.1, few, length-map m.entries.items g.Entry.TableEntry.row_in, m.full, most)

pub rows-preserved : goal.rows-preserved
rows-preserved g c =
    let inv = c.rows.invariant in
    let next = c.in-Some.ensures.goes.on inv.0 in
    let given = first-given (λ s t. t ≡ s) (λ _. ⊥) _ _ (λ t. rows_after t.from (map g.Entry.TableEntry.row_in t.entries.now))
    c.rows.walk c.in-Some.field-0 c.next.new.self c.in-Some.ensures.steps in
    (next.0, next.1, omega (arith, inv.2, ap length given.1))
