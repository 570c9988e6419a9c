use Rattle.std.proofs.Common.{◌∙◌}
use Rattle.std.specs.declared.convert.Infallible.{Infallible}
use Rattle.constriction_model.specs.Rows.{entry_of}
use Rattle.constriction_client.proofs.Places.{come-next, placed-again, reads-on}
use Rattle.constriction_client.proofs.Returning.{as-many, quantiles-below, stand-back}
use Rattle.constriction_client.proofs.laws.round_trips.there_and_back_in_a_cursor.Goals as goal

pub read_back-requires-clause-come : goal.read_back-requires-clause-come
read_back-requires-clause-come g c =
    let back = c.in_ok-write_and_go_back.ensures.ok in
    let entry = entry_of g.E.EncoderModel.symbol_eq (g.E.EntropyModel.rows c.args.encoder.now) in
    record {
      words = back.placed.words;
      next =
          come-next entry g.D.Probability.WholeNumber.whole g.Buf.SafeBufMut.with_words c.args.cursor.now c.args.items.now
          c.write_and_go_back.new.cursor back;
      many = as-many entry g.D.Probability.WholeNumber.whole c.args.items.now back.placed.words back.placed.quantiles;
      in_range =
          quantiles-below g.E.EncoderModel.symbol_eq g.D.Probability.WholeNumber.whole g.row.PRECISION
          (g.E.EntropyModel.rows c.args.encoder.now) c.args.items.now back.placed.words
          (g.met.E.EncoderModel.within_law c.args.encoder.now) back.placed.quantiles;
    }

pub returns-in-Ok : goal.returns-in-Ok
returns-in-Ok g c =
    let back = c.in_ok-write_and_go_back.ensures.ok in
    let entry = entry_of g.E.EncoderModel.symbol_eq (g.E.EntropyModel.rows c.args.encoder.now) in
    let read = c.in-Ok.ensures.ok back.placed.words
    (come-next entry g.D.Probability.WholeNumber.whole g.Buf.SafeBufMut.with_words c.args.cursor.now c.args.items.now
    c.write_and_go_back.new.cursor back)
    (as-many entry g.D.Probability.WholeNumber.whole c.args.items.now back.placed.words back.placed.quantiles) in
    record {
      ok =
          stand-back g.D.DecoderModel.stands_for g.E.EncoderModel.symbol_eq g.met.E.EncoderModel.equality_law entry
          g.D.Probability.WholeNumber.whole
          g.D.Probability.WholeNumber.BITS g.row.PRECISION (g.D.EntropyModel.rows c.args.decoder.now) c.args.items.now
          c.in-Ok.pairs.items back.placed.words (g.met.D.DecoderModel.tile_law c.args.decoder.now)
          g.met.D.Probability.WholeNumber.same_law c.requires.alike back.placed.quantiles read.0;
      placed =
          placed-again entry g.D.Probability.WholeNumber.whole g.Buf.SafeBufMut.with_words c.args.cursor.now c.args.items.now Infallible
          back.reached c.write_and_go_back.new.cursor c.read_back.new.source back.placed back.buf back.pos read.1;
      err = tt;
    }

pub returns-in-Err : goal.returns-in-Err
returns-in-Err g c =
    let back = c.in_ok-write_and_go_back.ensures.ok in
    let read = c.in-Err.ensures.err in
    let on = reads-on Infallible c.write_and_go_back.new.cursor read.0 c.read_back.new.source read.1 in
    record { ok = tt; placed = tt; err = (back.reached, back.placed, on.2 ∙ back.buf) }
