use Rattle.constriction_coders.proofs.Stopping.{turns-back}
use Rattle.constriction_coders.proofs.laws.stack.encoded_in_turn.Goals as goal

pub returns : goal.returns
returns g c = λ entry symbols old full led. turns-back (λ x a b step. step) symbols old full led
