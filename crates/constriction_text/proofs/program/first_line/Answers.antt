use Rattle.std.proofs.Common.{rules}
use Rattle.constriction_text.proofs.Cutting.{lines_of-cut, lines_of-last}
use Rattle.constriction_text.proofs.program.first_line.Goals as goal

pub returns-in-Some-clause-lines : goal.returns-in-Some-clause-lines
returns-in-Some-clause-lines c =
    lines_of-cut c.args.bytes.now c.cut.result.0.now c.in-Some.rest.now (rw c.in-Some.is at c.cut.ensures.parts)

pub returns-in-None-clause-lines : goal.returns-in-None-clause-lines
returns-in-None-clause-lines c =
    lines_of-last c.args.bytes.now c.cut.result.0.now (rw c.in-None.is at c.cut.ensures.parts) (search rules)
