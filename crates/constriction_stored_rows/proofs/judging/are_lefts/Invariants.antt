-- The words so far are the left cumulatives of rows and of the next one.
use Rattle.std.specs.Prelude.{◌≡◌, ℕ, ◌∷◌, List, map, take}
use Rattle.std.proofs.Common.{get_or}
use Rattle.constriction_stored_rows.proofs.JudgeLemmas.{AreBegun}
use Rattle.constriction_stored_rows.proofs.judging.are_lefts.Given as goal

abbrev pub invariant-loop-left : goal.invariant-loop-left
invariant-loop-left g l =
    let whole = g.Word.WholeNumber.whole in
    ((weights : List ℕ) × AreBegun (whole l.initial.before ∷ take l.left-index (map whole l.rest)) weights (whole l.before))
    × (get_or (whole l.initial.before ∷ map whole l.rest) l.left-index 0 ≡ whole l.before)
