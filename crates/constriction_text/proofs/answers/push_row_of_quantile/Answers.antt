use Rattle.std.proofs.Common.{◌≡◌, ◌∙◌, ◌++◌, List, lit<, subst, ℕ}
use Rattle.std.specs.Result.{OnOk}
use Rattle.std.specs.String.{string_bytes}
use Rattle.constriction_categorical.specs.ModelRows.{contiguous_model_rows}
use Rattle.constriction_categorical.specs.lemmas.ModelRows.{contiguous-precise, contiguous-tiles}
use Rattle.constriction_model.specs.Rows.{Row}
use Rattle.constriction_model.specs.lemmas.Stand.{exact-row}
use Rattle.constriction_text.proofs.Accepting.{narrowed_same}
use Rattle.constriction_text.proofs.RowTexts.{is_below, quantile_line, same_row}
use Rattle.constriction_text.proofs.answers.push_row_of_quantile.Goals as goal

pub quantile_function-requires : goal.quantile_function-requires
quantile_function-requires g c =
    let below = is_below g.row.PRECISION c.args.quantile c.if-quantile-ne0.false in
    let same : g.Word.WholeNumber.whole c.narrowed.result ≡ c.args.quantile =
    c.narrowed.ensures
    ∙ narrowed_same g.Word.WholeNumber.BITS g.row.PRECISION c.args.quantile (contiguous-precise c.args.model.now).fits below in
    (lit< tt, rw same below)

pub returns : goal.returns
returns g c =
    let whole = g.Word.WholeNumber.whole in
    let bits = g.Word.WholeNumber.BITS in
    let q = c.args.quantile in
    let rows = contiguous_model_rows c.args.model.now in
    let below = is_below g.row.PRECISION q c.if-quantile-ne0.false in
    let same : whole c.narrowed.result ≡ q =
    c.narrowed.ensures ∙ narrowed_same bits g.row.PRECISION q (contiguous-precise c.args.model.now).fits below in
    let row : Row ℕ = record { symbol = c.in_ok-symbol.symbol; left = c.number.result; weight = c.number-2.result } in
    let is =
    same_row rows q (whole c.narrowed.result) c.in_ok-symbol.symbol c.number.result (whole c.in_ok-symbol.left) c.number-2.result _
    (exact-row (λ s t. t ≡ s) (λ s t is. is) whole g.Word.WholeNumber.base _ _ _ c.in_ok-symbol.ensures.row) same c.number.ensures
    (rw c.from_weight.ensures at c.number-2.ensures) in
    let line =
    quantile_line bits g.row.PRECISION rows q row below (contiguous-tiles c.args.model.now) is in
    let P : List ℕ → Type 0 =
    λ bytes. OnOk c.push_row.result (string_bytes c.push_row.new.text ≡ string_bytes c.args.text.now ++ bytes) in
    subst P line c.push_row.ensures
