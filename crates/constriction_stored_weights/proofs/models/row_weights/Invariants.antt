use Rattle.std.proofs.Common.{◌≡◌, ◌++◌, map}
use Rattle.constriction.specs.Rows.{Row}
use Rattle.constriction_stored_weights.proofs.models.row_weights.Given as goal

-- the weights so far, and those of the rows that are left, are those of all rows
abbrev pub invariant-loop-row : goal.invariant-loop-row
invariant-loop-row g l =
    l.weights.items ++ map (λ (r : Row g.row.M-Symbol.Denot). r.weight) (g.M.IterableEntropyModel.rows_left l.row-iterator)
    ≡ map (λ (r : Row g.row.M-Symbol.Denot). r.weight) (g.M.EntropyModel.rows l.fn.model)
