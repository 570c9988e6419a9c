use Rattle.std.proofs.Common.{true, refl}
use Rattle.constriction_model.specs.Rows.{symbols_of}
use Rattle.constriction_stored_rows.proofs.PairedLemmas.{held-more}
use Rattle.constriction_stored_rows.proofs.ReadLemmas.{never-any}
use Rattle.constriction_stored_rows.proofs.uncompared.UncomparedTakesRows.take_row.Goals as goal

pub returns-clause-held : goal.returns-clause-held
returns-clause-held g c = λ _ rows h.
    let whole = g.Word.WholeNumber.whole in
    rw (c.in_ok-push_item.ensures.pushed (refl {a = true}))
    (held-more whole c.args.self.now.entries.items rows
    (record { symbol = c.args.symbol; left = whole c.args.left; weight = whole c.args._weight }) c.args.left h refl)

pub returns-clause-apart : goal.returns-clause-apart
returns-clause-apart g c = λ _ rows h. never-any (symbols_of rows)
