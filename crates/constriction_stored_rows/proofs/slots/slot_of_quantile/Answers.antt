use Rattle.std.proofs.Common.{◌≡◌, ◌/◌, refl}
use Rattle.constriction_stored_rows.specs.Slots.{slot_width}
use Rattle.constriction_stored_rows.proofs.SlotFilling.{slot-below}
use Rattle.constriction_stored_rows.proofs.slots.slot_of_quantile.Goals as goal

pub returns : goal.returns
returns g c =
    let q = g.Word.WholeNumber.whole c.args.quantile in
    let is : c.to_number.result / c.width_of_slots.result ≡ q / slot_width g.row.PRECISION g.row.SLOT_BITS =
    rw (c.to_number.ensures, c.width_of_slots.ensures) refl in
    record { is = is; below = rw is (slot-below g.row.PRECISION g.row.SLOT_BITS q c.requires.below) }
