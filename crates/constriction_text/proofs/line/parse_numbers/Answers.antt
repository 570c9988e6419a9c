use Rattle.constriction_text.proofs.Numbers.{numbers_none, numbers_some, numbers_end, after_nothing}
use Rattle.constriction_text.proofs.line.parse_numbers.Goals as goal

pub loop-rest-init : goal.loop-rest-init
loop-rest-init c = rw c.new-numbers.ensures.items (after_nothing _)

pub returns-in-None : goal.returns-in-None
returns-in-None c =
    numbers_none c.cut.result.0.now _ _ c.loop-rest.numbers.items _ c.cut.ensures.parts c.in-None.ensures
    (rw c.in-Some.is at c.loop-rest.invariant)

pub loop-rest-preserved : goal.loop-rest-preserved
loop-rest-preserved c =
    numbers_some c.cut.result.0.now _ _ c.in-Some-parse_number.number c.loop-rest.numbers.items _ _
    c.cut.ensures.parts c.in-Some-parse_number.ensures
    c.in_ok-push-in-Some-parse_number.ensures.items (rw c.in-Some.is at c.loop-rest.invariant)

pub returns : goal.returns
returns c = numbers_end c.loop-rest.numbers.items _ (rw c.in_default.is at c.loop-rest.invariant)
