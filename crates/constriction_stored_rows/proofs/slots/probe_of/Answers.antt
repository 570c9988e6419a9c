use Rattle.std.proofs.Common.{◌+◌, ◌-◌}
use Rattle.constriction_stored_rows.proofs.SlotLemmas.{part-whole}
use Rattle.constriction_stored_rows.proofs.slots.probe_of.Goals as goal

pub returns-clause-cumulatives : goal.returns-clause-cumulatives
returns-clause-cumulatives g c =
    rw c.new.ensures.cumulatives (part-whole g.Kind.CdfEntry.cumulative c.args.entries.now c.args.first (c.args.last + 1 - c.args.first))
