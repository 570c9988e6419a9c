use Rattle.std.proofs.Common.{ℕ, get_or, length, arith}
use Rattle.std.proofs.lemmas.List.FromFn.{fill_by_all}
use Rattle.constriction_adaptive.specs.Mixing.{weight_after}
use Rattle.constriction_adaptive.proofs.mixing.adjust.Goals as goal

pub returns : goal.returns
returns c =
    let each : ℕ → ℕ → ℕ = λ error i. weight_after c.args.bit error (get_or c.args.strengths.now i 0) (get_or c.args.weights.now i 0) in
    rw c.error_from-error.ensures.value at
    (fill_by_all (each c.error_from-error.result) c.loop-i.weights (length c.args.weights.now) 0 (omega arith)
    (λ k h. c.loop-i.invariant.value k (omega arith)))
