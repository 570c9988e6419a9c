use Rattle.constriction_coders.proofs.stack.ans_coder.AnsCoder.from_binary.Goals as goal

pub returns-in-Err : goal.returns-in-Err
returns-in-Err g c = record { ok = tt; read = (_, c.in-Err.ensures.gives) }

pub returns-in-Ok-None-clause-read : goal.returns-in-Ok-None-clause-read
returns-in-Ok-None-clause-read g c = (_, c.in-Ok-None.ensures.gives)

pub returns-in-Ok-Some-clause-read : goal.returns-in-Ok-Some-clause-read
returns-in-Ok-Some-clause-read g c = (_, c.in-Ok-Some.ensures.gives)
