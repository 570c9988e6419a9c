use Rattle.std.proofs.Common.{arith, refl}
use Rattle.std.proofs.lemmas.Result.{err_from_is_err_and}
use Rattle.constriction_model.specs.Acceptance.{AreAccepted}
use Rattle.constriction_model.specs.lemmas.Given.{decided-by_both}
use Rattle.constriction_stored_rows.proofs.MadeLemmas.{made-unrefused}
use Rattle.constriction_stored_rows.proofs.PairedLemmas.{accepted-tile}
use Rattle.constriction_categorical.proofs.Remade.{refused_both}
use Rattle.constriction_tables.specs.Table.{same_number}
use Rattle.constriction_tables.proofs.model.DirectTableModel.from_symbols_and_nonzero_fixed_point_probabilities.Goals as goal

pub model_of_table-requires : goal.model_of_table-requires
model_of_table-requires g c =
    let read = c.in_ok-table.ensures.ok in (
      omega arith,
      (c.requires.precision, (_, read.5, accepted-tile (same_number g.Entry.TableEntry.number) 32 g.row.PRECISION _ _ read.4)),
    )

pub returns : goal.returns
returns g c =
    let read = c.in_ok-table.ensures.ok in
    decided-by_both (AreAccepted (same_number g.Entry.TableEntry.number) 32 g.row.PRECISION) 32 g.row.PRECISION
    c.args.infer_last_probability (λ n _. (n, refl)) (λ ss ns a. a.tile.fit) _
    (record {
      ok = (
        read.0,
        read.1,
        read.2,
        read.3,
        read.4,
        c.model_of_table.ensures _ read.5 (accepted-tile (same_number g.Entry.TableEntry.number) 32 g.row.PRECISION _ _ read.4),
      );
      invalid = λ is. absurd (made-unrefused _ _ is);
    })

pub returns-in_err-table : goal.returns-in_err-table
returns-in_err-table g c =
    let error = err_from_is_err_and c.from_residual.result c.from_residual.ensures.1 in
    rw (error.1, error.2)
    (decided-by_both (AreAccepted (same_number g.Entry.TableEntry.number) 32 g.row.PRECISION) 32 g.row.PRECISION
    c.args.infer_last_probability (λ n _. (n, refl)) (λ ss ns a. a.tile.fit) _
    (refused_both _ _ _ _ _ _ _ _ c.in_err-table.ensures))
