use Rattle.std.proofs.Common.{refl}
use Rattle.constriction_coders.specs.Places.{placed, entry_at, IsDecodedAt}
use Rattle.constriction_coders.specs.Steps.{IsDecoded}
use Rattle.constriction_coders.proofs.ComingBack.{symbol-back}
use Rattle.constriction_coders.proofs.PlacesComingBack.{stack-back}
use Rattle.constriction_coders.proofs.laws.stack.places_come_back.Goals as goal

pub returns : goal.returns
returns g c = λ eq entry rows next first same.
    let Stands = g.D.DecoderModel.stands_for in
    stack-back (placed next) (λ state symbol. (state, symbol)) next (λ state. refl) (λ state x xs. refl) (entry_at entry) g.row.PRECISION
    _ same (IsDecodedAt eq entry rows g.row.PRECISION (λ own. IsDecoded Stands own g.row.PRECISION))
    (λ state symbol answer full rest under e d. symbol-back Stands eq (entry state) (rows state) 32 g.row.PRECISION d.tile d.alike symbol
    answer full rest under e d.step) first
