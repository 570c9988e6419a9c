use Rattle.std.proofs.Common.{◌∙◌, arith}
use Rattle.constriction_model.specs.Rows.{entry_of}
use Rattle.constriction_client.proofs.Places.{items-placed, fault-placed, full-placed, in-range}
use Rattle.constriction_client.proofs.laws.round_trips.write_and_go_back.Goals as goal

pub returns-in-Err-Frontend : goal.returns-in-Err-Frontend
returns-in-Err-Frontend g c = record {
  ok = tt;
  err =
      fault-placed g.Buf.SafeBufMut.with_words
      (entry_of g.E.EncoderModel.symbol_eq (g.E.EntropyModel.rows c.args.encoder.now)) g.E.Probability.WholeNumber.whole
      _ c.extending_overwrites.ensures c.args.cursor.now c.args.items.now c.write_quantiles.new.sink
      c.in-Err-Frontend.error (rw c.in-Err-Frontend.field-0-is at c.in-Err-Frontend.ensures.err);
}

pub returns-in-Err-Backend : goal.returns-in-Err-Backend
returns-in-Err-Backend g c = record {
  ok = tt;
  err =
      full-placed g.Buf.SafeBufMut.with_words
      (entry_of g.E.EncoderModel.symbol_eq (g.E.EntropyModel.rows c.args.encoder.now)) g.E.Probability.WholeNumber.whole
      _ c.extending_overwrites.ensures c.args.cursor.now c.args.items.now c.write_quantiles.new.sink
      c.in-Err-Backend.error (rw c.in-Err-Backend.field-0-is at c.in-Err-Backend.ensures.err);
}

pub unreachable-requires : goal.unreachable-requires
unreachable-requires g c =
    let placed = items-placed g.Buf.SafeBufMut.with_words
    (entry_of g.E.EncoderModel.symbol_eq (g.E.EntropyModel.rows c.args.encoder.now)) g.E.Probability.WholeNumber.whole
    _ c.extending_overwrites.ensures c.args.cursor.now c.args.items.now c.write_quantiles.new.sink c.in-Ok.ensures.ok in
    let fits = in-range (entry_of g.E.EncoderModel.symbol_eq (g.E.EntropyModel.rows c.args.encoder.now)) g.E.Probability.WholeNumber.whole
    g.Buf.SafeBufMut.with_words c.args.cursor.now c.args.items.now c.write_quantiles.new.sink c.write_quantiles.new.sink
    placed g.met.Buf.SafeBufMut.keeps_length in
    omega (arith, fits, c.pos-start.ensures, c.in-Err.ensures.gives.0)

pub returns : goal.returns
returns g c = record {
  ok = record {
    reached = c.write_quantiles.new.sink;
    placed =
        items-placed g.Buf.SafeBufMut.with_words
        (entry_of g.E.EncoderModel.symbol_eq (g.E.EntropyModel.rows c.args.encoder.now)) g.E.Probability.WholeNumber.whole
        _ c.extending_overwrites.ensures c.args.cursor.now c.args.items.now c.write_quantiles.new.sink c.in-Ok.ensures.ok;
    buf = c.in-Ok-seek.ensures.gives.1;
    pos = c.in-Ok-seek.ensures.gives.2 ∙ c.pos-start.ensures;
  };
  err = tt;
}
