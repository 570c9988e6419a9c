-- The cdf has the left cumulatives of the rows so far and of the next one.
use Rattle.std.specs.Prelude.{◌≡◌, ◌+◌, ◌∷◌, ◌++◌, [], length, map, sum, take}
use Rattle.std.specs.Vec.{vec_capacity}
use Rattle.constriction_stored_rows.specs.Stored.{lefts_from}
use Rattle.constriction_stored_rows.proofs.filling.rewritten.Given as goal

abbrev pub invariant-loop-weight : goal.invariant-loop-weight
invariant-loop-weight g l = let so_far = take l.weight-index (map g.Word.WholeNumber.whole l.weights) in record {
  words : map g.Word.WholeNumber.whole l.cdf.items ≡ lefts_from 0 so_far ++ sum so_far ∷ [];
  left : g.Word.WholeNumber.whole l.left ≡ sum so_far;
  long : length l.cdf.items ≡ l.weight-index + 1;
  room : vec_capacity l.cdf ≡ vec_capacity l.initial.cdf;
}
