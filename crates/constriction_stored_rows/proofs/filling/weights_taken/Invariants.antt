-- The rows of what was read were taken, and what is left are the next row's first quantile and `room` more.
use Rattle.std.specs.Prelude.{List, map}
use Rattle.std.specs.Iterator.{IsFinite}
use Rattle.constriction_stored_rows.specs.private.Filling.{IsBegun}
use Rattle.constriction_stored_rows.proofs.filling.weights_taken.Given as goal

abbrev pub invariant-rows : goal.invariant-rows
invariant-rows g l =
    g.Weights.Iterator.can_next l.rest
    × IsFinite (g.Weights.Iterator.remaining l.rest)
    × ((weights : List g.row.Word.Denot)
    × IsBegun g.Weights.Iterator.next_gives l.initial.rest g.Word.WholeNumber.whole g.Word.WholeNumber.BITS
    g.row.PRECISION weights l.rest l.left (g.Word.WholeNumber.whole l.room)
    × g.Taken.TakesWeights.took l.initial.taken (map g.Word.WholeNumber.whole weights) l.taken)
