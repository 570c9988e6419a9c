use Rattle.std.proofs.Common.{length}
use Rattle.constriction_coder_program.proofs.run.write_answers_to_calls.Given as goal

abbrev pub decreases-loop-rest : goal.decreases-loop-rest
decreases-loop-rest g l = length l.rest
