use Rattle.constriction_coders.proofs.Outcomes.{no-error}
use Rattle.constriction_coders.proofs.stack.ans_coder.AnsCoder.into_binary.Goals as goal

pub returns-in-Ok-clause-refused : goal.returns-in-Ok-clause-refused
returns-in-Ok-clause-refused g c = λ is. absurd (no-error _ _ is)

pub returns-in-Ok-clause-failed : goal.returns-in-Ok-clause-failed
returns-in-Ok-clause-failed g c = λ error is. absurd (no-error _ _ is)

pub returns-in-Err-clause-ok : goal.returns-in-Err-clause-ok
returns-in-Err-clause-ok g c = tt

pub returns-in-Err-clause-wrote : goal.returns-in-Err-clause-wrote
returns-in-Err-clause-wrote g c = tt

pub returns-then-state-eq1-clause-refused : goal.returns-then-state-eq1-clause-refused
returns-then-state-eq1-clause-refused g c = λ is. absurd (no-error _ _ is)

pub returns-then-state-eq1-clause-failed : goal.returns-then-state-eq1-clause-failed
returns-then-state-eq1-clause-failed g c = λ error is. absurd (no-error _ _ is)
