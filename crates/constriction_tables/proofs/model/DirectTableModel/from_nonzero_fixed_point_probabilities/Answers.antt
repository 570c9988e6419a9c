use Rattle.std.proofs.Common.{◌≡◌, ◌-◌, ◌^◌, ◌<◌, ◌++◌, ◌∷◌, ◌∙◌, [], All, arith, length, rules, subst, sum, sym, true, false}
use Rattle.std.specs.Prelude.{Bool, List, ℕ}
use Rattle.constriction_model.specs.Acceptance.{IsAccepted, completed}
use Rattle.constriction_model.specs.Rows.{rows_of}
use Rattle.constriction_tables.specs.ModelRows.{table_model_rows}
use Rattle.constriction_tables.specs.Table.{first_symbols}
use Rattle.constriction_tables.proofs.ByNumber.{accepted-of, all-push, inferred-total, weighted-all, weighted-tile}
use Rattle.constriction_tables.proofs.model.DirectTableModel.from_nonzero_fixed_point_probabilities.Goals as goal

-- ---- the last weight is inferred

pub model_of_table-requires : goal.model_of_table-requires
model_of_table-requires g c =
    let ws = c.args.probabilities.now in
    let narrow : g.row.PRECISION < 32 = omega (arith, g.met.Entry.TableEntry.width_law, c.requires.precision.fits) in (
      omega arith,
      (
        c.requires.precision,
        (
          _,
          c.in_ok-table-2.ensures.held,
          weighted-tile g.Entry.TableEntry.symbol_of 32 g.row.PRECISION (ws ++ (2 ^ g.row.PRECISION - sum ws) ∷ []) narrow
              (inferred-total (2 ^ g.row.PRECISION) ws c.in_ok-table-2.ensures.some),
        ),
      ),
    )

pub returns-then-infer_last_probability-clause-accepted : goal.returns-then-infer_last_probability-clause-accepted
returns-then-infer_last_probability-clause-accepted g c =
    let ws = c.args.probabilities.now in
    let narrow : g.row.PRECISION < 32 = omega (arith, g.met.Entry.TableEntry.width_law, c.requires.precision.fits) in
    let positive : All (λ w. 0 < w) ws = search rules in
    let infers : c.args.infer_last_probability ≡ true = search rules in
    let some = c.in_ok-table-2.ensures.some in
    subst (λ (b : Bool). IsAccepted 32 g.row.PRECISION (completed g.row.PRECISION b ws)) (sym infers)
    (accepted-of 32 g.row.PRECISION (ws ++ (2 ^ g.row.PRECISION - sum ws) ∷ []) narrow
    (all-push ws (2 ^ g.row.PRECISION - sum ws) positive (omega (arith, some))) (inferred-total (2 ^ g.row.PRECISION) ws some))

pub returns-then-infer_last_probability-clause-rows : goal.returns-then-infer_last_probability-clause-rows
returns-then-infer_last_probability-clause-rows g c =
    let ws = c.args.probabilities.now in
    let all : List ℕ = ws ++ (2 ^ g.row.PRECISION - sum ws) ∷ [] in
    let symbol_of = g.Entry.TableEntry.symbol_of in
    let narrow : g.row.PRECISION < 32 = omega (arith, g.met.Entry.TableEntry.width_law, c.requires.precision.fits) in
    let positive : All (λ w. 0 < w) ws = search rules in
    let infers : c.args.infer_last_probability ≡ true = search rules in
    let some = c.in_ok-table-2.ensures.some in
    subst (λ (b : Bool). table_model_rows c.model_of_table.result ≡ rows_of
    (first_symbols symbol_of (length (completed g.row.PRECISION b ws))) (completed g.row.PRECISION b ws)) (sym infers)
    (c.model_of_table.ensures _ c.in_ok-table-2.ensures.held
    (weighted-tile symbol_of 32 g.row.PRECISION all narrow (inferred-total (2 ^ g.row.PRECISION) ws some))
    ∙ weighted-all symbol_of all (all-push ws (2 ^ g.row.PRECISION - sum ws) positive (omega (arith, some))))

-- ---- all weights are given

pub model_of_table-requires-2 : goal.model_of_table-requires-2
model_of_table-requires-2 g c =
    let narrow : g.row.PRECISION < 32 = omega (arith, g.met.Entry.TableEntry.width_law, c.requires.precision.fits) in
    let total : sum c.args.probabilities.now ≡ 2 ^ g.row.PRECISION =
    omega (arith, c.in_ok-table.ensures.total, c.in_ok-table.ensures.within, c.if-total-all.false, c.quantile_count-all.ensures.value) in (
      omega arith,
      (
        c.requires.precision,
        (
          _,
          c.in_ok-table.ensures.held,
          weighted-tile g.Entry.TableEntry.symbol_of 32 g.row.PRECISION c.args.probabilities.now narrow total,
        ),
      ),
    )

pub returns-clause-accepted : goal.returns-clause-accepted
returns-clause-accepted g c =
    let ws = c.args.probabilities.now in
    let narrow : g.row.PRECISION < 32 = omega (arith, g.met.Entry.TableEntry.width_law, c.requires.precision.fits) in
    let positive : All (λ w. 0 < w) ws = search rules in
    let given : c.args.infer_last_probability ≡ false = search rules in
    let total : sum ws ≡ 2 ^ g.row.PRECISION =
    omega (arith, c.in_ok-table.ensures.total, c.in_ok-table.ensures.within, c.if-total-all.false, c.quantile_count-all.ensures.value) in
    subst (λ (b : Bool). IsAccepted 32 g.row.PRECISION (completed g.row.PRECISION b ws)) (sym given)
    (accepted-of 32 g.row.PRECISION ws narrow positive total)

pub returns-clause-rows : goal.returns-clause-rows
returns-clause-rows g c =
    let ws = c.args.probabilities.now in
    let symbol_of = g.Entry.TableEntry.symbol_of in
    let narrow : g.row.PRECISION < 32 = omega (arith, g.met.Entry.TableEntry.width_law, c.requires.precision.fits) in
    let positive : All (λ w. 0 < w) ws = search rules in
    let given : c.args.infer_last_probability ≡ false = search rules in
    let total : sum ws ≡ 2 ^ g.row.PRECISION =
    omega (arith, c.in_ok-table.ensures.total, c.in_ok-table.ensures.within, c.if-total-all.false, c.quantile_count-all.ensures.value) in
    subst (λ (b : Bool). table_model_rows c.model_of_table-2.result ≡ rows_of
    (first_symbols symbol_of (length (completed g.row.PRECISION b ws))) (completed g.row.PRECISION b ws)) (sym given)
    (c.model_of_table-2.ensures _ c.in_ok-table.ensures.held (weighted-tile symbol_of 32 g.row.PRECISION ws narrow total)
    ∙ weighted-all symbol_of ws positive)
