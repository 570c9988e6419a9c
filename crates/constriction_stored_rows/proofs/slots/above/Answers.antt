use Rattle.std.proofs.Common.{refl, sym, ◌∙◌, arith}
use Rattle.std.proofs.lemmas.Bool.{false≢true}
use Rattle.constriction_stored_rows.specs.lemmas.Stored.{read-whole}
use Rattle.constriction_stored_rows.proofs.slots.above.Goals as goal

pub returns-then-is_below-clause-at_most : goal.returns-then-is_below-clause-at_most
returns-then-is_below-clause-at_most g c =
    let read = read-whole g.Kind.CdfEntry.cumulative c.args.entries.now c.args.row c.index-entries-row.result c.requires c.index-entries-row.is in
    λ h. absurd (omega (arith, read, c.cumulative_of.ensures, c.is_below.ensures.0 c.if-is_below.true))

pub returns-then-is_below-clause-above : goal.returns-then-is_below-clause-above
returns-then-is_below-clause-above g c = λ _. refl

pub returns-else-is_below-clause-at_most : goal.returns-else-is_below-clause-at_most
returns-else-is_below-clause-at_most g c = λ _. refl

pub returns-else-is_below-clause-above : goal.returns-else-is_below-clause-above
returns-else-is_below-clause-above g c =
    let read = read-whole g.Kind.CdfEntry.cumulative c.args.entries.now c.args.row c.index-entries-row.result c.requires c.index-entries-row.is in
    λ h. absurd (false≢true (sym c.if-is_below.false ∙ c.is_below.ensures.1 (omega (arith, read, c.cumulative_of.ensures))))
