use Rattle.std.proofs.Common.{◌≡◌, ◌+◌, get_or, arith}
use Rattle.constriction_adaptive.specs.Mixing.{strength}
use Rattle.constriction_adaptive.proofs.ListLemmas.{mapped, set_more}
use Rattle.constriction_adaptive.proofs.mixer.inputs.ask.Goals as goal

pub loop-i-preserved : goal.loop-i-preserved
loop-i-preserved c =
    set_more (λ k v. v ≡ strength (get_or c.args.slots.now (get_or c.args.places.now k 0 + c.args.path) 0))
    c.loop-i.strengths
    c.loop-i.i
    c.strength.result
    (omega arith)
    c.loop-i.invariant
    c.strength.ensures

pub returns : goal.returns
returns c =
    mapped (λ p. strength (get_or c.args.slots.now (p + c.args.path) 0)) c.args.places.now c.loop-i.strengths (omega arith)
    (λ k h. c.loop-i.invariant k (omega arith))
