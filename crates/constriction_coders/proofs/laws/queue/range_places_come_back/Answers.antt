use Rattle.std.proofs.Common.{refl}
use Rattle.constriction_coders.specs.Intervals.{IsRead}
use Rattle.constriction_coders.specs.Places.{placed, entry_at, IsDecodedAt}
use Rattle.constriction_coders.proofs.Decoding.{range-symbol-back}
use Rattle.constriction_coders.proofs.PlacesComingBack.{range-back}
use Rattle.constriction_coders.proofs.laws.queue.range_places_come_back.Goals as goal

pub returns : goal.returns
returns g c = λ eq entry rows next first same.
    let Stands = g.D.DecoderModel.stands_for in
    let gives = g.Source.ReadWords.read_gives in
    let tells = g.Source.ReadWords.tells_upcoming in
    range-back (placed next) (λ state symbol. (state, symbol)) next (λ state. refl) (λ state x xs. refl) (entry_at entry) g.row.PRECISION
    _ same (IsDecodedAt eq entry rows g.row.PRECISION (λ own. IsRead Stands own gives g.row.PRECISION)) tells c.requires
    (λ state symbol answer old new words now later fit e lies here d.
    range-symbol-back Stands eq (entry state) (rows state) gives tells 32 g.row.PRECISION d.tile d.alike
    g.met.Source.ReadWords.reads_upcoming symbol answer old new words now later fit
    e lies here d.step) first
