use Rattle.std.proofs.Common.{◌≡◌, refl}
use Rattle.std.proofs.lemmas.List.{take_all}
use Rattle.std.proofs.lemmas.List.Elements.{all_zip_more}
use Rattle.constriction_stored_rows.proofs.paired.entries_cloned.Goals as goal

pub entries-preserved : goal.entries-preserved
entries-preserved g c =
    rw c.in_ok-push.ensures.items
    (all_zip_more (λ e s. g.Symbol.Clone.is_clone e.1 s.1 × (s.0 ≡ e.0)) c.args.entries.now c.entries.cloned.items c.entries.entry-index
    c.entry-item.result (c.entry-item.result.0, c.in_ok-clone.field-0) c.entries-test.true c.entry-item.is c.entries.invariant
    (c.in_ok-clone.ensures.cases, refl))

pub returns : goal.returns
returns g c = rw (take_all c.entries.entry-index c.args.entries.now c.entries-test.false) at c.entries.invariant
