use Rattle.std.proofs.Common.{refl}
use Rattle.constriction_coders.specs.Places.{placed, entry_at}
use Rattle.constriction_coders.proofs.Decoding.{range-symbol-back}
use Rattle.constriction_coders.proofs.PlacesComingBack.{range-back}
use Rattle.constriction_adaptive.specs.Predicted.{predicted_entry, IsReadIn}
use Rattle.constriction_adaptive.proofs.queue.messages.symbols_come_back.Goals as goal

pub returns : goal.returns
returns g c =
    let eq = g.P.Model.EncoderModel.symbol_eq in
    let Stands = g.P.Model.DecoderModel.stands_for in
    let rows = g.P.Predictor.rows in
    let next = g.P.Predictor.next in
    let gives = g.Source.ReadWords.read_gives in
    let tells = g.Source.ReadWords.tells_upcoming in
    range-back (placed next) (λ state symbol. (state, symbol)) next (λ state. refl) (λ state x xs. refl)
    (entry_at (predicted_entry rows eq)) g.row.PRECISION _ g.met.P.Predictor.next_law (IsReadIn rows Stands eq g.row.PRECISION gives) tells
    (g.met.P.Model.EntropyModel.precision_law c.model-model.result.now).positive
    (λ state symbol answer old new words now later fit e lies here d.
    range-symbol-back Stands eq (predicted_entry rows eq state) (rows state) gives tells 32 g.row.PRECISION d.tile d.alike
    g.met.Source.ReadWords.reads_upcoming symbol answer old new words now later fit
    e lies here d.step)
