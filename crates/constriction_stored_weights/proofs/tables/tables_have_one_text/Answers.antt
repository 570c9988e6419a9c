use Rattle.std.proofs.Common.{◌≡◌, ℕ, ◌++◌, length, replicate, ap, sym, ◌∙◌, arith, length-append}
use Rattle.std.proofs.lemmas.List.{length-replicate}
use Rattle.constriction_stored_weights.specs.Tables.{weight_bits}
use Rattle.constriction_stored_weights.proofs.BitsLemmas.{length-bits_of_bytes, same_bytes}
use Rattle.constriction_stored_weights.proofs.TablesLemmas.{table_once}
use Rattle.constriction_stored_weights.proofs.tables.tables_have_one_text.Goals as goal

pub returns-clause-text : goal.returns-clause-text
returns-clause-text g c = λ weights text other a b text-fits other-fits.
    let written = weight_bits 0 weights in
    let a-fills = a.fills in
    let b-fills = b.fills in
    let paddings : a.padding ≡ b.padding =
    omega (
      arith,
      ap length a.bits_are,
      length-bits_of_bytes text,
      length-append written (replicate a.padding 0),
      length-replicate {A = ℕ} a.padding 0,
      ap length b.bits_are,
      length-bits_of_bytes other,
      length-append written (replicate b.padding 0),
      length-replicate {A = ℕ} b.padding 0,
    ) in
    same_bytes text other text-fits other-fits (a.bits_are ∙ ap (λ k. written ++ replicate k 0) paddings ∙ sym b.bits_are)

pub returns-clause-table : goal.returns-clause-table
returns-clause-table g c = λ count bytes table other small. table_once g.row.PRECISION count bytes small table other
