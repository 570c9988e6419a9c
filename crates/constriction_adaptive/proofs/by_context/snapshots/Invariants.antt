use Rattle.std.proofs.Common.{◌≡◌, length, map, take}
use Rattle.std.specs.Vec.{vec_capacity}
use Rattle.constriction_adaptive.proofs.by_context.snapshots.Given as goal

-- the predictors so far are copied
abbrev pub invariant-loop-predictor : goal.invariant-loop-predictor
invariant-loop-predictor g l = record {
  counted : length l.copies.items ≡ l.predictor-index;
  room : vec_capacity l.copies ≡ vec_capacity l.initial.copies;
  copied : map g.P.Predictor.state l.copies.items ≡ map g.P.Predictor.state (take l.predictor-index l.predictors);
}
