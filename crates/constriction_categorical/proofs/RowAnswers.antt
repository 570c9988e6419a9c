-- Answers for the row at an index.
use Rattle.std.specs.Prelude.{⊤}
use Rattle.std.proofs.Common.{◌≡◌, ℕ, ◌+◌, ◌^◌, ◌<◌, List, length, get_or, refl, subst, sym, arith}
use Rattle.std.specs.Prelude.{Some, Result, Ok, Err, IfOk, IfErr, slice_get}
use Rattle.std.proofs.lemmas.Option.{slice_get_read, get_or_from_slice_get}
use Rattle.constriction_model.specs.Model.{row_of, AnswersQuantile, RowMayBeRefused}
use Rattle.constriction_model.specs.lemmas.Pairs.{has-row}
use Rattle.constriction_model.specs.Probe.{IsLastAtMost, IsProbeFor, IsRowIndexOf}
use Rattle.constriction_model.specs.Rows.{Row, RowsTile, IsRowOf}
use Rattle.constriction_model.specs.declared.probe.Probe.{Ghosts}
use Rattle.constriction_model.specs.Tables.{StandsFor}

module _ {Symbol Word Weight Refusal : Type 0} (Stands : Symbol → Symbol → Type 0) (MayRefuse : Symbol → Type 0) (whole : Word → ℕ)
    (base : Weight → Word) (rows : List (Row Symbol)) (index : ℕ) (h : index < length rows) where
  -- an answer with the row there, or a refusal if a clone of its symbol may be refused, stands for this row
  pub row-stands : (result : Result (Symbol × Word × Weight) Refusal)
      → IfOk result (λ x. (own : Symbol) × Stands own x.0
      × (get_or rows index (row_of whole base (own, x.1, x.2)) ≡ row_of whole base (own, x.1, x.2)))
      → IfErr result (λ _. (r : Row Symbol) × (get_or rows index r ≡ r) × MayRefuse r.symbol)
      → (r : Row Symbol) × (slice_get rows index ≡ Some r) × StandsFor Stands MayRefuse whole base result r
  row-stands (Ok x) ok err =
      let row = row_of whole base (ok.0, x.1, x.2) in
      (row, slice_get_read rows (length rows) index row refl h (sym ok.2), ((ok.0, ok.1, refl), tt))
  row-stands (Err e) ok err = (err.0, slice_get_read rows (length rows) index err.0 refl h (sym err.1), (tt, err.2))

-- the row that is found at the index of a quantile's row is that row
pub row-found : {Symbol : Type 0} (rows : List (Row Symbol)) (q index : ℕ) (r : Row Symbol) → IsRowIndexOf rows q index
    → slice_get rows index ≡ Some r → IsRowOf rows q r
row-found rows q index r found at = subst (IsRowOf rows q) (get_or_from_slice_get rows index r r at) (found.row r)

module _ {Symbol Word Weight Refusal : Type 0} (Stands : Symbol → Symbol → Type 0) (MayRefuse : Symbol → Type 0) (whole : Word → ℕ)
    (base : Weight → Word) (rows : List (Row Symbol)) (q index : ℕ) (found : IsRowIndexOf rows q index) where
  -- an answer with the row at the index of a quantile's row answers the quantile
  pub row-answered : (result : Result (Symbol × Word × Weight) Refusal)
      → IfOk result (λ x. (own : Symbol) × Stands own x.0
      × (get_or rows index (row_of whole base (own, x.1, x.2)) ≡ row_of whole base (own, x.1, x.2)))
      → IfErr result (λ _. (r : Row Symbol) × (get_or rows index r ≡ r) × MayRefuse r.symbol)
      → IfOk result (AnswersQuantile Stands whole base rows q) × IfErr result (λ _. RowMayBeRefused MayRefuse rows q)
  row-answered (Ok x) ok err =
      let row = row_of whole base (ok.0, x.1, x.2) in
      ((ok.0, ok.1, rw ok.2 at (found.row row)), tt)
  row-answered (Err e) ok err = (tt, (err.0, rw err.1 at (found.row err.0), err.2))

  -- and so does an answer that stands for that row
  pub row-stood_for : (result : Result (Symbol × Word × Weight) Refusal)
      → (r : Row Symbol) × (slice_get rows index ≡ Some r) × StandsFor Stands MayRefuse whole base result r
      → IfOk result (AnswersQuantile Stands whole base rows q) × IfErr result (λ _. RowMayBeRefused MayRefuse rows q)
  row-stood_for (Ok x) at =
      ((at.2.0.0, at.2.0.1, subst (IsRowOf rows q) (sym at.2.0.2) (row-found rows q index at.0 found at.1)), tt)
  row-stood_for (Err e) at = (tt, (at.0, row-found rows q index at.0 found at.1, at.2.1))

-- if all rows are in question, a search of them finds the index of the quantile's row
pub all-searched : {Symbol P Word : Type 0} (g : Ghosts P Word) (bits precision : ℕ) (rows : List (Row Symbol)) (q first i : ℕ)
    (probe : P) → RowsTile bits precision rows → q < 2 ^ precision → IsProbeFor g rows (λ _. ⊤) q first probe
    → IsLastAtMost (g.cumulatives probe) q i → IsRowIndexOf rows q i
all-searched g bits precision rows q first i probe tile below p found =
    let one = has-row bits precision rows q tile below in
    let begins = (p.exactly 0 one.0 (omega (arith, one.1.among.1))).0 tt in
    let same : first + i ≡ i = omega (arith, begins) in
    rw same at (p.found i found)
