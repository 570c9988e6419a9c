use Rattle.std.proofs.Common.{◌≡◌, ◌<◌, arith, List, subst, sym}
use Rattle.std.proofs.lemmas.Result.{err_from_is_err_and}
use Rattle.constriction_model.specs.Model.{StandForRows}
use Rattle.constriction_model.specs.Rows.{Row}
use Rattle.constriction_model.specs.declared.error.ModelError.TheVariants.{InvalidTable}
use Rattle.constriction_stored_rows.proofs.MadeLemmas.{made-unrefused}
use Rattle.constriction_model.specs.lemmas.Stand.{tile-made}
use Rattle.constriction_tables.proofs.ByModel.{tile-wide}
use Rattle.constriction_tables.proofs.model.DirectTableModel.from_iterable_entropy_model.Goals as goal

pub model_of_table-requires : goal.model_of_table-requires
model_of_table-requires g c =
    let M = g.met.M.IterableEntropyModel in
    let ok = c.in_ok-table.ensures.ok in
    let narrow : g.row.PRECISION < 32 = omega (arith, g.met.Entry.TableEntry.width_law, c.requires.fits) in (
      omega arith,
      (
        c.requires,
        (
          ok.0,
          ok.2,
          tile-wide g.M.Probability.WholeNumber.BITS 32 g.row.PRECISION ok.0 narrow
              (tile-made g.M.IterableEntropyModel.stands_for g.M.Probability.WholeNumber.BITS g.row.PRECISION ok.0
              (g.M.EntropyModel.rows c.args.model) ok.1 (M.tile_law c.args.model)),
        ),
      ),
    )

pub returns : goal.returns
returns g c =
    let M = g.met.M.IterableEntropyModel in
    let ok = c.in_ok-table.ensures.ok in
    let narrow : g.row.PRECISION < 32 = omega (arith, g.met.Entry.TableEntry.width_law, c.requires.fits) in
    let rows = c.model_of_table.ensures ok.0 ok.2
    (tile-wide g.M.Probability.WholeNumber.BITS 32 g.row.PRECISION ok.0 narrow
    (tile-made g.M.IterableEntropyModel.stands_for g.M.Probability.WholeNumber.BITS g.row.PRECISION ok.0
    (g.M.EntropyModel.rows c.args.model) ok.1 (M.tile_law c.args.model))) in
    record {
      ok = (
        subst (λ (rs : List (Row g.row.Entry-Symbol.Denot)).
            StandForRows g.M.IterableEntropyModel.stands_for rs (g.M.EntropyModel.rows c.args.model)) (sym rows) ok.1,
        c.model_of_table.result.distinct,
      );
      invalid = λ is. absurd (made-unrefused _ _ is);
    }

pub returns-in_err-table : goal.returns-in_err-table
returns-in_err-table g c =
    let error = err_from_is_err_and c.from_residual.result c.from_residual.ensures.1 in
    rw (error.1, error.2) (record {
      ok = tt;
      invalid = λ is.
          let bad : c.in_err-table.field-0.0 ≡ InvalidTable = cc in
          c.in_err-table.ensures.invalid cc;
    })
