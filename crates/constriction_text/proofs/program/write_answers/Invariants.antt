use Rattle.std.proofs.Common.{length}
use Rattle.std.specs.String.{string_bytes}
use Rattle.constriction_text.proofs.Writing.{Answered}
use Rattle.constriction_text.proofs.program.write_answers.Given as goal

-- the lines before the rest were answered, and what was not written yet is in the text
abbrev pub invariant-loop-rest : goal.invariant-loop-rest
invariant-loop-rest g l =
    Answered (g.W.Write.contents l.fn.writer) (g.W.Write.contents l.writer) l.input l.rest (string_bytes l.text)

abbrev pub decreases-loop-rest : goal.decreases-loop-rest
decreases-loop-rest g l = length l.rest
