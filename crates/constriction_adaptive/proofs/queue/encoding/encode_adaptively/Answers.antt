use Rattle.std.proofs.Common.{List, arith, subst}
use Rattle.std.proofs.lemmas.List.{take_all}
use Rattle.constriction_coders.specs.Places.{entry_at}
use Rattle.constriction_coders.specs.Spans.{IsNarrowed}
use Rattle.constriction_adaptive.specs.Predicted.{predicted_entry, AllTile, AreCoded, IsEncodingFault}
use Rattle.constriction_adaptive.proofs.Runs.{coded-take, encoding-stops, tile-take}
use Rattle.constriction_adaptive.proofs.queue.encoding.encode_adaptively.Goals as goal

pub loop-symbol-preserved : goal.loop-symbol-preserved
loop-symbol-preserved g c = record {
  so_far =
      coded-take g.P.Predictor.next
      (λ s. IsNarrowed (entry_at (predicted_entry g.P.Predictor.rows g.P.Model.EncoderModel.symbol_eq) s) g.row.PRECISION)
      c.args.symbols.now
      c.loop-symbol.symbol-index c.symbol-item.result c.loop-symbol-test.true c.symbol-item.is _ _ _ _ c.loop-symbol.invariant.so_far _ _
      c.in-Ok.ensures.ok c.in-Ok.ensures.learned;
  tile =
      tile-take g.P.Predictor.rows g.P.Predictor.next g.row.PRECISION c.args.symbols.now c.loop-symbol.symbol-index c.symbol-item.result
      c.loop-symbol-test.true c.symbol-item.is _ _ c.loop-symbol.invariant.tile c.loop-symbol.invariant.so_far.learned
      c.in-Ok.ensures.tile;
}

pub returns-in-Err : goal.returns-in-Err
returns-in-Err g c =
    let entry = entry_at (predicted_entry g.P.Predictor.rows g.P.Model.EncoderModel.symbol_eq) in
    record {
      ok = tt;
      tile = tt;
      err =
          encoding-stops g.P.Predictor.next (λ s. IsNarrowed (entry s) g.row.PRECISION) c.args.symbols.now c.loop-symbol.symbol-index
          c.symbol-item.result c.loop-symbol-test.true c.symbol-item.is _ _ _ _ c.loop-symbol.invariant.so_far
          (IsEncodingFault entry g.row.PRECISION c.in-Err.error) _ _ c.in-Err.ensures.fault c.in-Err.ensures.unlearned
          c.in-Err.ensures.same;
    }

pub returns : goal.returns
returns g c =
    let entry = entry_at (predicted_entry g.P.Predictor.rows g.P.Model.EncoderModel.symbol_eq) in
    let first = g.P.Predictor.state c.args.predictor.now in
    let all = take_all c.loop-symbol.symbol-index c.args.symbols.now (omega (arith, c.loop-symbol-test.false)) in
    record {
      ok =
          subst (λ (xs : List g.row.P-Symbol.Denot). AreCoded g.P.Predictor.next (λ s. IsNarrowed (entry s) g.row.PRECISION) xs first
          c.args.encoder.now (g.P.Predictor.state c.loop-symbol.predictor) c.loop-symbol.encoder) all c.loop-symbol.invariant.so_far;
      tile =
          subst (λ (xs : List g.row.P-Symbol.Denot). AllTile g.P.Predictor.rows g.P.Predictor.next g.row.PRECISION first xs) all
          c.loop-symbol.invariant.tile;
      err = tt;
    }
