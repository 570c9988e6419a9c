use Rattle.std.proofs.Common.{refl}
use Rattle.constriction_model.specs.Coding.{StandsForEqual}
use Rattle.constriction_model.specs.Rows.{entry_of}
use Rattle.constriction_coders.specs.Steps.{IsDecoded}
use Rattle.constriction_coders.specs.lemmas.Stack.{symbols-once}
use Rattle.constriction_coders.proofs.ComingBack.{symbol-back}
use Rattle.constriction_coders.proofs.PlacesComingBack.{stack-back}
use Rattle.constriction_coders.proofs.laws.stack.symbols_come_back.Goals as goal

pub returns : goal.returns
returns g c =
    let eq = g.E.EncoderModel.symbol_eq in
    let entry = entry_of eq (g.E.EntropyModel.rows c.args.encoder.now) in
    let rows = g.D.EntropyModel.rows c.args.decoder.now in
    let tile = g.met.D.DecoderModel.tile_law c.args.decoder.now in
    let back = symbol-back g.D.DecoderModel.stands_for eq entry rows _ g.row.PRECISION tile c.requires in record {
      symbol = back;
      all = stack-back {State = Unit {0}} (λ state symbols. symbols) (λ state symbol. symbol) (λ state symbol. tt) (λ state. refl)
          (λ state x xs. refl) entry g.row.PRECISION (StandsForEqual g.D.DecoderModel.stands_for eq) (λ state symbol answer same. refl)
          (IsDecoded g.D.DecoderModel.stands_for rows g.row.PRECISION) (λ state. back) tt;
      one = symbols-once eq entry _ _ _ tile g.met.E.EncoderModel.equality_law c.requires;
    }
