use Rattle.std.proofs.Common.{refl, inl, inr}
use Rattle.constriction_coders.proofs.stack.ans_coder.AnsCoder.from_compressed.Goals as goal

pub returns-in-Err-clause-read : goal.returns-in-Err-clause-read
returns-in-Err-clause-read g c = (c.pop.new.self, inl (c.pop.new.self, c.in-Err.ensures.gives, refl))

pub returns-in-Err-pop-clause-read : goal.returns-in-Err-pop-clause-read
returns-in-Err-pop-clause-read g c =
    let high = rw c.in-Ok-Some.field-0-is at c.in-Ok-Some.ensures.gives in
    (c.pop-2.new.self, inr (c.in-Ok-Some.high, (c.pop.new.self, high, (c.pop-2.new.self, c.in-Err-pop.ensures.gives, refl))))
