use Rattle.std.proofs.Common.{map}
use Rattle.std.proofs.lemmas.Result.{IfOk-weaker}
use Rattle.constriction_stored_rows.specs.Slots.{slot_width, slot_count}
use Rattle.constriction_stored_rows.proofs.SlotLemmas.{begins-alone, begins-followed}
use Rattle.constriction_stored_rows.proofs.slots.table_of_slots.Goals as goal

pub slots_of-requires-clause-narrow : goal.slots_of-requires-clause-narrow
slots_of-requires-clause-narrow g c = c.requires.narrow

pub slots_of-requires-clause-fits : goal.slots_of-requires-clause-fits
slots_of-requires-clause-fits g c = c.requires.fits

pub slots_of-requires-clause-searchable : goal.slots_of-requires-clause-searchable
slots_of-requires-clause-searchable g c = c.requires.searchable

pub slots_of-requires-clause-below : goal.slots_of-requires-clause-below
slots_of-requires-clause-below g c = c.requires.below

pub slots_of-requires-2-clause-narrow : goal.slots_of-requires-2-clause-narrow
slots_of-requires-2-clause-narrow g c = c.requires.narrow

pub slots_of-requires-2-clause-fits : goal.slots_of-requires-2-clause-fits
slots_of-requires-2-clause-fits g c = c.requires.fits

pub slots_of-requires-2-clause-searchable : goal.slots_of-requires-2-clause-searchable
slots_of-requires-2-clause-searchable g c = c.requires.searchable

pub slots_of-requires-2-clause-below : goal.slots_of-requires-2-clause-below
slots_of-requires-2-clause-below g c = c.requires.below

pub returns-then-this-eq0 : goal.returns-then-this-eq0
returns-then-this-eq0 g c =
    IfOk-weaker c.slots_of.result _ _
    (λ t s. begins-alone g.Kind.Word.WholeNumber.BITS g.row.PRECISION (slot_width g.row.PRECISION g.row.SLOT_BITS)
    (slot_count g.row.PRECISION g.row.SLOT_BITS) (map g.Kind.CdfEntry.cumulative c.args.entries.now)
    (map g.Kind.Word.WholeNumber.whole t.items) s)
    c.slots_of.ensures

pub returns : goal.returns
returns g c =
    IfOk-weaker c.with_cdf.result _ _
    (λ t e. begins-followed g.Kind.Word.WholeNumber.BITS g.row.PRECISION (slot_width g.row.PRECISION g.row.SLOT_BITS)
    (slot_count g.row.PRECISION g.row.SLOT_BITS) (map g.Kind.CdfEntry.cumulative c.args.entries.now)
    (map g.Kind.Word.WholeNumber.whole c.in_ok-slots.slots.items) (map g.Kind.Word.WholeNumber.whole t.items) c.in_ok-slots.ensures e)
    c.with_cdf.ensures
