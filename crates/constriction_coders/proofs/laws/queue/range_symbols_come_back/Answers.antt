use Rattle.std.proofs.Common.{refl}
use Rattle.constriction_model.specs.Coding.{StandsForEqual}
use Rattle.constriction_model.specs.Rows.{entry_of}
use Rattle.constriction_coders.specs.Intervals.{IsRead}
use Rattle.constriction_coders.proofs.Decoding.{range-symbol-back}
use Rattle.constriction_coders.proofs.PlacesComingBack.{range-back}
use Rattle.constriction_coders.proofs.Spanning.{lies-back, leaves-whole}
use Rattle.constriction_coders.proofs.laws.queue.range_symbols_come_back.Goals as goal

pub returns : goal.returns
returns g c =
    let eq = g.E.EncoderModel.symbol_eq in
    let entry = entry_of eq (g.E.EntropyModel.rows c.args.encoder.now) in
    let rows = g.D.EntropyModel.rows c.args.decoder.now in
    let Stands = g.D.DecoderModel.stands_for in
    let gives = g.Source.ReadWords.read_gives in
    let tells = g.Source.ReadWords.tells_upcoming in
    let positive = (g.met.D.EntropyModel.precision_law c.args.decoder.now).positive in
    let tile = g.met.D.DecoderModel.tile_law c.args.decoder.now in
    let law = g.met.Source.ReadWords.reads_upcoming in
    let back = range-symbol-back Stands eq entry rows gives tells _ g.row.PRECISION tile c.requires law in record {
      before = lies-back entry g.row.PRECISION;
      leaves = leaves-whole entry g.row.PRECISION positive;
      symbol = back;
      symbols = range-back {State = Unit {0}} (λ state symbols. symbols) (λ state symbol. symbol) (λ state symbol. tt) (λ state. refl)
          (λ state x xs. refl) entry g.row.PRECISION (StandsForEqual Stands eq) (λ state symbol answer same. refl)
          (IsRead Stands rows gives g.row.PRECISION) tells positive (λ state. back) tt;
    }
