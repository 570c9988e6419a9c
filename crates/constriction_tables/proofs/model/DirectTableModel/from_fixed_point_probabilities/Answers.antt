use Rattle.std.proofs.Common.{◌≡◌, ◌^◌, ◌<◌, arith}
use Rattle.std.specs.Prelude.{sum}
use Rattle.constriction_tables.proofs.ByNumber.{weighted-tile}
use Rattle.constriction_tables.proofs.model.DirectTableModel.from_fixed_point_probabilities.Goals as goal

pub model_of_table-requires : goal.model_of_table-requires
model_of_table-requires g c =
    let narrow : g.row.PRECISION < 32 = omega (arith, g.met.Entry.TableEntry.width_law, c.requires.precision.fits) in
    let total : sum c.args.probabilities.now ≡ 2 ^ g.row.PRECISION =
    omega (arith, c.in_ok-table.ensures.total, c.in_ok-table.ensures.within, c.if-total-all.false, c.quantile_count-all.ensures.value) in (
      omega arith,
      (
        c.requires.precision,
        (
          _,
          c.in_ok-table.ensures.held,
          weighted-tile g.Entry.TableEntry.symbol_of 32 g.row.PRECISION c.args.probabilities.now narrow total,
        ),
      ),
    )

pub returns-clause-rows : goal.returns-clause-rows
returns-clause-rows g c =
    let narrow : g.row.PRECISION < 32 = omega (arith, g.met.Entry.TableEntry.width_law, c.requires.precision.fits) in
    let total : sum c.args.probabilities.now ≡ 2 ^ g.row.PRECISION =
    omega (arith, c.in_ok-table.ensures.total, c.in_ok-table.ensures.within, c.if-total-all.false, c.quantile_count-all.ensures.value) in
    c.model_of_table.ensures _ c.in_ok-table.ensures.held
    (weighted-tile g.Entry.TableEntry.symbol_of 32 g.row.PRECISION c.args.probabilities.now narrow total)
