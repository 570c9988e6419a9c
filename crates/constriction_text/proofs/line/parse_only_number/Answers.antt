use Rattle.constriction_text.proofs.Numbers.{only_of_more}
use Rattle.constriction_text.proofs.line.parse_only_number.Goals as goal

pub returns-in-Some-after : goal.returns-in-Some-after
returns-in-Some-after c =
    rw c.in-Some.is (only_of_more c.cut.result.0.now c.in-Some-after.field-0.now _ (rw c.in-Some-after.is at c.cut.ensures.parts))
