use Rattle.std.proofs.Common.{◌≡◌, fold, map}
use Rattle.std.specs.Iterator.{IsFinite, size}
use Rattle.std.specs.List.{AllZip}
use Rattle.constriction_coders.specs.Places.{placed, entry_at}
use Rattle.constriction_coders.proofs.Giving.{GivenSoFar}
use Rattle.constriction_adaptive.specs.Entries.{IsEntryAt}
use Rattle.constriction_adaptive.specs.Predicted.{predicted_entry}
use Rattle.constriction_adaptive.proofs.stack.entries.entries_of_items.Given as goal

-- what was given so far was learned, and there is an entry for each
abbrev pub invariant-turns : goal.invariant-turns
invariant-turns g l = record {
  next : g.I.Iterator.can_next l.symbols;
  ends : IsFinite (g.I.Iterator.remaining l.symbols);
  so_far : GivenSoFar g.I.Iterator.next_gives l.initial.symbols l.symbols
      (λ done. AllZip
      (IsEntryAt g.row.PRECISION (entry_at (predicted_entry g.P.Predictor.rows g.P.Model.EncoderModel.symbol_eq)))
      (placed g.P.Predictor.next (g.P.Predictor.state l.initial.predictor) done) (map g.K.StoredEntry.kept l.entries.items)
      × (g.P.Predictor.state l.predictor ≡ fold g.P.Predictor.next (g.P.Predictor.state l.initial.predictor) done));
}

-- how many symbols are left at most
abbrev pub decreases-turns : goal.decreases-turns
decreases-turns g l = size (g.I.Iterator.remaining l.symbols)
