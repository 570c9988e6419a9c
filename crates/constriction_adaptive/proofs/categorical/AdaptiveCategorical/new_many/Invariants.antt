use Rattle.std.proofs.Common.{◌≡◌, length, map, replicate}
use Rattle.std.specs.Vec.{vec_capacity}
use Rattle.constriction_stored_rows.specs.Stored.{lefts_in}
use Rattle.constriction_adaptive.specs.Categorical.{even_lefts}
use Rattle.constriction_adaptive.proofs.categorical.AdaptiveCategorical.new_many.Given as goal

-- the predictors so far
abbrev pub invariant-loop : goal.invariant-loop
invariant-loop g l = record {
  long : length l.made.items ≡ l.counter;
  room : vec_capacity l.made ≡ vec_capacity l.initial.made;
  even : map (λ m. lefts_in m.cdf.items) l.made.items ≡ replicate l.counter (even_lefts g.row.PRECISION l.symbols);
}
