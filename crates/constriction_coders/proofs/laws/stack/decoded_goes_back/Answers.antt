use Rattle.constriction_model.specs.lemmas.Pairs.{one-to-one}
use Rattle.constriction_model.specs.Rows.{entry_of}
use Rattle.constriction_coders.proofs.GoingBack.{goes-back}
use Rattle.constriction_coders.proofs.laws.stack.decoded_goes_back.Goals as goal

pub returns : goal.returns
returns g c =
    let eq = g.E.EncoderModel.symbol_eq in
    let entry = entry_of eq (g.E.EntropyModel.rows c.args.encoder.now) in
    let one = one-to-one eq entry _ g.row.PRECISION _ (g.met.D.DecoderModel.tile_law c.args.decoder.now) c.requires.alike
    g.met.E.EncoderModel.equality_law c.requires.invertible.distinct in
    goes-back _ eq entry _ _ one c.requires.invertible.clones (c.encoded_once.ensures.once entry)
