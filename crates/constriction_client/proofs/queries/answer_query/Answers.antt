use Rattle.constriction_model.specs.Rows.{entry_of}
use Rattle.constriction_client.proofs.Replying.{known-reply}
use Rattle.constriction_client.proofs.queries.answer_query.Goals as goal

pub returns-in_ok-symbol-in-OfQuantile : goal.returns-in_ok-symbol-in-OfQuantile
returns-in_ok-symbol-in-OfQuantile g c =
    let whole = g.D.Probability.WholeNumber.whole in
    let rows = g.D.EntropyModel.rows c.args.form.now in
    rw c.in-OfQuantile.is
    (known-reply g.D.DecoderModel.stands_for whole g.D.Probability.WholeNumber.base g.D.Probability.WholeNumber.BITS g.row.PRECISION rows
    (entry_of g.E.EncoderModel.symbol_eq (g.E.EntropyModel.rows c.args.encoder.now)) c.in-OfQuantile.word _
    (c.is_quantile.ensures.0 c.if-not-is_quantile.false)
    (g.met.D.DecoderModel.tile_law c.args.form.now) c.in_ok-symbol-in-OfQuantile.ensures.row)
