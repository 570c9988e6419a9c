use Rattle.std.proofs.Common.{◌-◌, List, drop, length, map}
use Rattle.std.specs.List.{AllZip}
use Rattle.constriction_model.specs.Coding.{InTurn}
use Rattle.constriction_coders.specs.AnsCoder.{held_by}
use Rattle.constriction_coders.specs.Places.{placed, entry_at}
use Rattle.constriction_coders.specs.Steps.{IsEncoded}
use Rattle.constriction_adaptive.specs.Entries.{IsEntryAt}
use Rattle.constriction_adaptive.specs.Predicted.{predicted_entry}
use Rattle.constriction_adaptive.proofs.stack.runs.put_entries.Given as goal

-- the last entries were encoded
abbrev pub invariant-loop-done : goal.invariant-loop-done
invariant-loop-done g l =
    (first : g.P.Predictor.State) (symbols : List g.row.P-Symbol.Denot)
    → AllZip (IsEntryAt g.row.PRECISION (entry_at (predicted_entry g.P.Predictor.rows g.P.Model.EncoderModel.symbol_eq)))
    (placed g.P.Predictor.next first symbols) (map g.K.StoredEntry.kept l.entries)
    → InTurn (λ s. IsEncoded (entry_at (predicted_entry g.P.Predictor.rows g.P.Model.EncoderModel.symbol_eq) s) g.row.PRECISION)
    (drop (length l.entries - l.done) (placed g.P.Predictor.next first symbols)) (held_by l.coder) (held_by l.initial.coder)
