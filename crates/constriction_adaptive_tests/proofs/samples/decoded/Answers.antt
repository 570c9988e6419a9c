use Rattle.std.proofs.Common.{Result, Ok, Err, IfOk}
use Rattle.constriction_adaptive_tests.proofs.samples.decoded.Goals as goal

-- a consequence of what is known of a value, if there is one
then_also : {T E : Type 0} {P Q : T → Type 0} (r : Result T E) → ((t : T) → P t → Q t) → IfOk r P → IfOk r Q
then_also (Ok t) f p = f t p
then_also (Err e) f p = p

pub returns-in-Ok : goal.returns-in-Ok
returns-in-Ok c = then_also c.decode_message_of.result
    (λ answers same symbols message more counted is small words.
    same c.pairs_of_numbers_are_same.ensures _ symbols message more c.in-Ok.ensures counted is small words)
    c.decode_message_of.ensures.same
