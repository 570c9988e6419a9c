use Rattle.std.proofs.Common.{◌≡◌, fold, map, take}
use Rattle.std.specs.List.{AllZip}
use Rattle.constriction_coders.specs.Places.{placed, entry_at}
use Rattle.constriction_adaptive.specs.Entries.{IsEntryAt}
use Rattle.constriction_adaptive.specs.Predicted.{predicted_entry}
use Rattle.constriction_adaptive.proofs.stack.entries.entries_of.Given as goal

-- the symbols so far were learned, and there is an entry for each
abbrev pub invariant-loop-symbol : goal.invariant-loop-symbol
invariant-loop-symbol g l = record {
  so_far : AllZip (IsEntryAt g.row.PRECISION (entry_at (predicted_entry g.P.Predictor.rows g.P.Model.EncoderModel.symbol_eq)))
      (placed g.P.Predictor.next (g.P.Predictor.state l.initial.predictor) (take l.symbol-index l.symbols))
      (map g.K.StoredEntry.kept l.entries.items);
  learned : g.P.Predictor.state l.predictor
      ≡ fold g.P.Predictor.next (g.P.Predictor.state l.initial.predictor) (take l.symbol-index l.symbols);
}
