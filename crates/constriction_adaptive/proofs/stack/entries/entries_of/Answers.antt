use Rattle.std.proofs.Common.{Err, List, [], fold, ap, map, refl, subst, ◌∙◌, arith}
use Rattle.std.specs.List.{AllZip}
use Rattle.std.proofs.lemmas.List.{take_all}
use Rattle.constriction_coders.specs.Places.{placed, entry_at}
use Rattle.constriction_adaptive.specs.Entries.{IsEntryAt}
use Rattle.constriction_adaptive.specs.Predicted.{predicted_entry}
use Rattle.constriction_adaptive.proofs.Entries.{entries-take, stops-predicting}
use Rattle.constriction_adaptive.proofs.stack.entries.entries_of.Goals as goal

pub loop-symbol-preserved : goal.loop-symbol-preserved
loop-symbol-preserved g c =
    let kept = c.in-Ok-predict_and_keep.ensures.ok in
    let both = entries-take g.P.Predictor.next c.args.symbols.now c.loop-symbol.symbol-index c.symbol-item.result c.loop-symbol-test.true
    c.symbol-item.is (g.P.Predictor.state c.args.predictor.now) _ c.loop-symbol.invariant.learned
    (entry_at (predicted_entry g.P.Predictor.rows g.P.Model.EncoderModel.symbol_eq)) g.row.PRECISION
    (map g.K.StoredEntry.kept c.loop-symbol.entries.items) kept.0 _ c.loop-symbol.invariant.so_far kept.1
    c.in-Ok-predict_and_keep.ensures.learned in
    record { so_far = rw kept.2 both.0; learned = both.1 }

pub returns-in_default : goal.returns-in_default
returns-in_default g c = record { ok = tt; learned = tt; err = ([], c.args.symbols.now, refl, refl) }

pub returns-in-Err : goal.returns-in-Err
returns-in-Err g c = record {
  ok = tt;
  learned = tt;
  err =
      stops-predicting g.P.Predictor.next c.args.symbols.now c.loop-symbol.symbol-index c.symbol-item.result c.loop-symbol-test.true
      c.symbol-item.is (g.P.Predictor.state c.args.predictor.now) _ c.loop-symbol.invariant.learned
      (predicted_entry g.P.Predictor.rows g.P.Model.EncoderModel.symbol_eq) c.in-Err.error _
      (λ is. c.in-Err.ensures.impossible (ap Err is)) c.in-Err.ensures.unlearned;
}

pub returns : goal.returns
returns g c =
    let first = g.P.Predictor.state c.args.predictor.now in
    let all = take_all c.loop-symbol.symbol-index c.args.symbols.now (omega (arith, c.loop-symbol-test.false)) in
    record {
      ok =
          subst (λ (xs : List g.row.P-Symbol.Denot). AllZip
          (IsEntryAt g.row.PRECISION (entry_at (predicted_entry g.P.Predictor.rows g.P.Model.EncoderModel.symbol_eq)))
          (placed g.P.Predictor.next first xs) (map g.K.StoredEntry.kept c.loop-symbol.entries.items)) all
          c.loop-symbol.invariant.so_far;
      learned = c.loop-symbol.invariant.learned ∙ ap (λ (xs : List g.row.P-Symbol.Denot). fold g.P.Predictor.next first xs) all;
      err = tt;
    }
