use Rattle.std.proofs.Common.{◌∙◌, rules}
use Rattle.constriction_text.proofs.Writing.{answered-none, answered-more, answered-written, answered-before}
use Rattle.constriction_text.proofs.Writing.{answered-all, answered-stopped}
use Rattle.constriction_text.proofs.program.write_answers.Goals as goal

pub loop-rest-init : goal.loop-rest-init
loop-rest-init g c = answered-none _ c.args.input.now _ c.new-text.ensures.bytes

pub loop-rest-preserved : goal.loop-rest-preserved
loop-rest-preserved g c =
    answered-written _ _ _ c.args.input.now _ _ _
    (answered-more _ _ c.first_line.result.0.now c.args.input.now _ c.first_line.result.1.now _ _
    c.loop-rest.invariant c.first_line.ensures.lines c.in-Ok.ensures.ok)
    c.in_ok-write_many.ensures.ok

pub returns-in-Err-clause-out_of_memory : goal.returns-in-Err-clause-out_of_memory
returns-in-Err-clause-out_of_memory g c = λ e.
    answered-before _ _ _ c.first_line.result.0.now c.args.input.now _ c.first_line.result.1.now _
    c.loop-rest.invariant c.first_line.ensures.lines
    (rw (c.as_bytes.ensures.value, c.in-Err.ensures.err) at (c.write_last.ensures.out_of_memory (cc)))

pub returns-in-Err-clause-write : goal.returns-in-Err-clause-write
returns-in-Err-clause-write g c = λ e.
    answered-stopped _ _ _ c.args.input.now _ _ c.loop-rest.invariant
    (rw (c.as_bytes.ensures.value, c.in-Err.ensures.err) at (c.write_last.ensures.write (cc)))

pub returns-in_err-write_many-clause-write : goal.returns-in_err-write_many-clause-write
returns-in_err-write_many-clause-write g c = λ e.
    answered-stopped _ _ _ c.args.input.now _ _
    (answered-more _ _ c.first_line.result.0.now c.args.input.now _ c.first_line.result.1.now _ _
    c.loop-rest.invariant c.first_line.ensures.lines c.in-Ok.ensures.ok)
    c.in_err-write_many.ensures.err

pub returns-clause-ok : goal.returns-clause-ok
returns-clause-ok g c =
    answered-all _ _ _ c.args.input.now _ _ c.loop-rest.invariant
    (rw c.as_bytes-2.ensures.value at c.in_ok-write_whole.ensures.ok) (search rules)

pub returns-in_err-write_whole-clause-write : goal.returns-in_err-write_whole-clause-write
returns-in_err-write_whole-clause-write g c = λ e.
    let part = c.in_err-write_whole.ensures.err in
    answered-stopped _ _ _ c.args.input.now _ _ c.loop-rest.invariant
    (part.0, part.1, part.3 ∙ c.as_bytes-2.ensures.value, part.2)
