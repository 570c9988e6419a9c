use Rattle.std.proofs.Common.{◌≡◌, [], reverse, ap, sym, ◌∙◌, append-nil}
use Rattle.std.proofs.lemmas.List.{length-reverse}
use Rattle.std.proofs.lemmas.Result.{err_from_is_err_and}
use Rattle.constriction_model.specs.Rows.{entry_of}
use Rattle.constriction_client.specs.Quantiles.{IsQuantileOf}
use Rattle.constriction_client.proofs.Returning.{AllZip-reverse, as-many, first-fault, quantiles-below, stand-back-reversed}
use Rattle.constriction_client.proofs.laws.round_trips.there_and_back_of_two.Goals as goal

pub returns-in_err-write_quantiles-clause-fault : goal.returns-in_err-write_quantiles-clause-fault
returns-in_err-write_quantiles-clause-fault g c =
    let p = err_from_is_err_and c.from_residual.result c.from_residual.ensures.1 in
    rw (p.1, p.2) (λ fault e.
    first-fault _ _ _ _ _ _ c.in_err-write_quantiles.field-0.0 _ fault
    c.in_err-write_quantiles.ensures.err (cc))

pub read_back-requires-clause-come : goal.read_back-requires-clause-come
read_back-requires-clause-come g c =
    let wrote = c.in_ok-write_quantiles.ensures.ok in
    let entry = entry_of g.E.EncoderModel.symbol_eq (g.E.EntropyModel.rows c.args.encoder.now) in
    let stored : wrote.words ≡ c.write_quantiles.new.sink.items = wrote.known [] (sym c.new-words.ensures.items) in
    record {
      words = reverse wrote.words;
      next = record { rest = []; known = append-nil (reverse wrote.words) ∙ ap reverse stored };
      many =
          length-reverse wrote.words
          ∙ as-many entry g.D.Probability.WholeNumber.whole c.args.items.now wrote.words wrote.quantiles;
      in_range =
          quantiles-below g.E.EncoderModel.symbol_eq g.D.Probability.WholeNumber.whole g.row.PRECISION
          (g.E.EntropyModel.rows c.args.encoder.now) (reverse c.args.items.now) (reverse wrote.words)
          (g.met.E.EncoderModel.within_law c.args.encoder.now)
          (AllZip-reverse (λ item word. IsQuantileOf entry g.D.Probability.WholeNumber.whole item (g.D.Probability.WholeNumber.whole word))
          c.args.items.now wrote.words wrote.quantiles);
    }

pub returns-in-Ok : goal.returns-in-Ok
returns-in-Ok g c =
    let wrote = c.in_ok-write_quantiles.ensures.ok in
    let entry = entry_of g.E.EncoderModel.symbol_eq (g.E.EntropyModel.rows c.args.encoder.now) in
    let stored : wrote.words ≡ c.write_quantiles.new.sink.items = wrote.known [] (sym c.new-words.ensures.items) in
    record {
      ok =
          stand-back-reversed g.D.DecoderModel.stands_for g.E.EncoderModel.symbol_eq g.met.E.EncoderModel.equality_law entry
          g.D.Probability.WholeNumber.whole g.D.Probability.WholeNumber.BITS g.row.PRECISION (g.D.EntropyModel.rows c.args.decoder.now)
          c.args.items.now
          c.in-Ok.pairs.items wrote.words (g.met.D.DecoderModel.tile_law c.args.decoder.now) g.met.D.Probability.WholeNumber.same_law
          c.requires.alike wrote.quantiles
          (c.in-Ok.ensures.ok (reverse wrote.words)
          (record { rest = []; known = append-nil (reverse wrote.words) ∙ ap reverse stored })
          (length-reverse wrote.words
          ∙ as-many entry g.D.Probability.WholeNumber.whole c.args.items.now wrote.words wrote.quantiles)).0;
      fault = λ fault e. absurd (cc);
    }
