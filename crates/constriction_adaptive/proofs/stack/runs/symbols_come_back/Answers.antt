use Rattle.std.proofs.Common.{refl}
use Rattle.constriction_coders.specs.Places.{placed, entry_at}
use Rattle.constriction_coders.proofs.ComingBack.{symbol-back}
use Rattle.constriction_coders.proofs.PlacesComingBack.{stack-back}
use Rattle.constriction_adaptive.specs.Predicted.{predicted_entry, IsTakenIn}
use Rattle.constriction_adaptive.proofs.stack.runs.symbols_come_back.Goals as goal

pub returns : goal.returns
returns g c =
    let eq = g.P.Model.EncoderModel.symbol_eq in
    let Stands = g.P.Model.DecoderModel.stands_for in
    let rows = g.P.Predictor.rows in
    let next = g.P.Predictor.next in
    stack-back (placed next) (λ state symbol. (state, symbol)) next (λ state. refl) (λ state x xs. refl)
    (entry_at (predicted_entry rows eq)) g.row.PRECISION _ g.met.P.Predictor.next_law (IsTakenIn rows Stands eq g.row.PRECISION)
    (λ state symbol answer full rest under e d. symbol-back Stands eq (predicted_entry rows eq state) (rows state) 32 g.row.PRECISION d.tile
    d.alike symbol answer full rest under e d.step)
